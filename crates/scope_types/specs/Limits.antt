-- The limits of a profile.
use Rattle.std.specs.Prelude.{ℕ}

-- how many harts a run may have
abbrev pub most_harts : ℕ
most_harts = 64

-- how many runs a profile may have
abbrev pub most_runs : ℕ
most_runs = 16

-- how many events can be sampled
abbrev pub most_events : ℕ
most_events = 4

-- how many samples a profile may have
abbrev pub most_samples : ℕ
most_samples = 1048576

-- how many frames one call path may have
abbrev pub most_frames_of_path : ℕ
most_frames_of_path = 512

-- how many frames the distinct raw paths of a profile may have together
abbrev pub most_frames_in_all : ℕ
most_frames_in_all = 4194304

-- how many scopes the call paths of its distinct raw paths may have together
abbrev pub most_scopes_in_all : ℕ
most_scopes_in_all = 8388608

-- how many threads may merge
abbrev pub most_workers : ℕ
most_workers = 16

-- how many parts the tree of a merge has
abbrev pub stripe_count : ℕ
stripe_count = 16

-- the fewest samples that an epoch of a run has, which is merged while the run goes on
abbrev pub least_epoch : ℕ
least_epoch = 1024

-- and the most
abbrev pub most_epoch : ℕ
most_epoch = 1048576

-- how many bytes the name of a procedure or of a file may have
abbrev pub most_name_bytes : ℕ
most_name_bytes = 4096
