-- Version 1: contents of one run in which retired is the only event.
use Rattle.std.proofs.Common.{◌≡◌, ℕ, ◌<◌, ◌≤◌, true, cond, Result, Ok, Err, IfOk, List, [], ◌∷◌, ◌++◌, length, map, sum, All, sym, ap, subst, ◌∙◌, arith, append_assoc}
use Rattle.std.proofs.lemmas.List.Elements.{All-cons, All-head, All-nil}
use Rattle.prof_bytes.specs.Number.{IsBytes, words}
use Rattle.prof_bytes.specs.Outcome.{Gives}
use Rattle.prof_bytes.specs.declared.fail.Fail.{Fail}
use Rattle.prof_bytes.proofs.Outcomes.{bind_ok, ok_same, pass_ok}
use Rattle.scope_types.specs.CallPaths.{ColumnPath}
use Rattle.scope_types.specs.Events.{retired_every}
use Rattle.scope_types.specs.Limits.{most_harts}
use Rattle.scope_types.specs.declared.event.Event.TheVariants.{Retired}
use Rattle.scope_types.specs.declared.event.EventPeriod.{EventPeriod}
use Rattle.tree_types.specs.Database.{period_at}
use Rattle.tree_types.specs.OfContent.{IsEventProfile, IsProfile, single_content, with_event}
use Rattle.tree_types.specs.PathsOf.{event_paths_of}
use Rattle.tree_types.specs.declared.content.Content.{Content}
use Rattle.tree_types.specs.declared.content.EventContent.{EventContent}
use Rattle.tree_types.proofs.EventParts.{event_is_profile}
use Rattle.tree_types.proofs.OneEvent.{single_is, with_paths, with_profile}
use Rattle.prof_db.specs.declared.fault.DbFault.{DbFault}
use Rattle.prof_db.specs.declared.raw.RawEvent.{RawEvent}
use Rattle.prof_db.specs.declared.raw.Version.{Version}
use Rattle.prof_db.specs.declared.raw.Version.TheVariants.{One, Two, Three}
use Rattle.prof_db.specs.Fields.{fault}
use Rattle.prof_db.specs.HeadRules.{event_of}
use Rattle.prof_db.specs.Layout.{begins, version_in}
use Rattle.prof_db.specs.Rules.{database_in, events_in, version_1_kept}
use Rattle.prof_db.specs.Spelling.{database_magic, database_spelling, events_spelling, head_numbers, shared_bytes}
use Rattle.prof_db.specs.Stored.{IsEventStored, IsStored, IsWord, is_call_path}
use Rattle.prof_db.proofs.BackFile.{read_spelled}
use Rattle.prof_db.proofs.ForthHead.{own_begins}
use Rattle.prof_db.proofs.Headed.{HasRuns, IsAlone, IsRead, read}
use Rattle.prof_db.proofs.Owned.{read_owned}
use Rattle.prof_db.proofs.Passed.{passed}
use Rattle.prof_db.proofs.StoredRules.{stored_read}

-- ---- as that of several events, and back

pub sum_of_one : (h : ℕ) → sum (h ∷ []) ≡ h
sum_of_one h = omega arith

runs_again : (runs : List ℕ) → length runs ≡ 1 → sum runs ∷ [] ≡ runs
runs_again [] one = absurd (omega arith)
runs_again (h ∷ []) one = ap (λ (n : ℕ). n ∷ []) (sum_of_one h)
runs_again (h ∷ k ∷ runs) one = absurd (omega arith)

pub single_again : (c : EventContent) (period : ℕ) → c.events ≡ retired_every period → length c.runs ≡ 1 → with_event Retired (single_content c) ≡ c
single_again c period events one =
    let same : record { event = Retired; period = period_at c.events 0 } ∷ [] ≡ c.events =
    ap (λ (es : List EventPeriod). record { event = Retired; period = period_at es 0 } ∷ []) events ∙ sym events in
    let runs = runs_again c.runs one in
    λ i. record { events = same i; runs = runs i; names = c.names; nodes = c.nodes; profiles = c.profiles; contexts = c.contexts }

pub with_again : (c : Content) → single_content (with_event Retired c) ≡ c
with_again c =
    let columns = sum_of_one c.columns in
    λ i. record { period = c.period; columns = columns i; names = c.names; nodes = c.nodes; profiles = c.profiles; contexts = c.contexts }

one_event : (events : List EventPeriod) (period : ℕ) → events ≡ retired_every period → length events ≡ 1
one_event events period is = ap length is

-- the content of a profile of retired alone is one that a profile may have
pub single_profile : (c : EventContent) (period : ℕ) → c.events ≡ retired_every period → IsEventProfile c → IsProfile (single_content c)
single_profile c period events profile =
    let one = one_event c.events period events in
    subst IsProfile (single_is c profile.own one) (event_is_profile c profile 0 (omega (arith, one)))

-- ---- stored contents

pub stored_as_event : (c : Content) → IsStored c → IsEventStored (with_event Retired c)
stored_as_event c s =
    let retired : EventPeriod = record { event = Retired; period = c.period } in
    record {
      profile = with_profile Retired c s.profile s.some_columns s.most_harts;
      few_runs = omega arith;
      periods = All-cons (λ (e : EventPeriod). IsWord e.period) retired [] s.period (All-nil (λ (e : EventPeriod). IsWord e.period));
      nodes = s.nodes;
      lists = s.lists;
      paths = subst (λ (ps : List ColumnPath). All (λ p. is_call_path p.path ≡ true) ps) (sym (with_paths Retired c)) s.paths;
      scopes = s.scopes;
      procs = s.procs;
      files = s.files;
    }

one_harts : (runs : List ℕ) → length runs ≡ 1 → All (λ h. (0 < h) × (h ≤ most_harts)) runs → (1 ≤ sum runs) × (sum runs ≤ most_harts)
one_harts [] one harts = absurd (omega arith)
one_harts (h ∷ []) one harts =
    let is = All-head (λ (h : ℕ). (0 < h) × (h ≤ most_harts)) h [] harts in
    let some = is.0 in
    let most = is.1 in
    let all = sum_of_one h in
    (omega (arith, some, all), omega (arith, most, all))
one_harts (h ∷ k ∷ runs) one harts = absurd (omega arith)

pub stored_single : (c : EventContent) (period : ℕ) → c.events ≡ retired_every period → length c.runs ≡ 1 → IsEventStored c → IsStored (single_content c)
stored_single c period events one s =
    let harts = one_harts c.runs one s.profile.harts in
    let first : period_at c.events 0 ≡ period = ap (λ (es : List EventPeriod). period_at es 0) events in
    let small : IsWord period = All-head (λ (e : EventPeriod). IsWord e.period) (record { event = Retired; period = period }) [] (subst (λ (es : List EventPeriod). All (λ e. IsWord e.period) es) events s.periods) in
    record {
      profile = single_profile c period events s.profile;
      period = subst IsWord (sym first) small;
      some_columns = harts.0;
      most_harts = harts.1;
      nodes = s.nodes;
      lists = s.lists;
      paths = subst (λ (ps : List ColumnPath). All (λ p. is_call_path p.path ≡ true) ps)
          (ap event_paths_of (sym (single_again c period events one)) ∙ with_paths Retired (single_content c)) s.paths;
      scopes = s.scopes;
      procs = s.procs;
      files = s.files;
    }

kept_one : (rest : List ℕ) → version_1_kept (database_magic One ++ rest) ≡ Ok tt
kept_one rest = ap (λ b. cond b (Ok tt) (Err (fault 1 0))) (own_begins One rest)

begins_one : (c : Content) → version_1_kept (events_spelling (with_event Retired c)) ≡ Ok tt
unfolding events_spelling
begins_one c =
    let all : EventContent = with_event Retired c in
    let numbers : List ℕ = words (head_numbers One all) in
    let shared : List ℕ = shared_bytes c.names c.nodes c.profiles c.contexts in
    ap version_1_kept (append_assoc (database_magic One) numbers shared) ∙ kept_one (numbers ++ shared)

-- what is written of a stored content is read as that content
pub stored_one_read : (c : Content) → IsStored c → database_in (database_spelling c) ≡ Ok c
unfolding database_in database_spelling
stored_one_read c s = rw (begins_one c, stored_read (with_event Retired c) (stored_as_event c s)) (ap (λ (k : Content). Ok k) (with_again c))

-- ---- what is read

pub record IsOne (bytes : List ℕ) (c : Content) : Type 0 where
  pub all : EventContent
  pub is : events_in bytes ≡ Ok all
  pub period : ℕ
  pub events : all.events ≡ retired_every period
  pub one : length all.runs ≡ 1
  pub same : single_content all ≡ c

version_one : (bytes : List ℕ) (version : Version) → begins (database_magic One) bytes ≡ true → version_in bytes ≡ Ok version → version ≡ One
version_one bytes version first is = sym (ok_same One version (sym (ap (λ b. cond b (Ok One) (cond (begins (database_magic Two) bytes) (Ok Two) (cond (begins (database_magic Three) bytes) (Ok Three) (Err (fault 1 0))))) first) ∙ is))

pub read_events : (bytes : List ℕ) (all : EventContent) → version_1_kept bytes ≡ Ok tt → events_in bytes ≡ Ok all → (period : ℕ) × (all.events ≡ retired_every period) × (length all.runs ≡ 1)
read_events bytes all kept is =
    let first = pass_ok (begins (database_magic One) bytes) (fault 1 0) (Ok tt) tt kept in
    let p = passed bytes all is in
    let r : IsRead bytes p.0 = read bytes p.0 p.1 in
    let one = version_one bytes r.version first.0 r.begun in
    let alone : IsAlone One p.0.events = subst (λ (v : Version). IsAlone v p.0.events) one r.is.alone in
    let runs : HasRuns One p.0.runs = subst (λ (v : Version). HasRuns v p.0.runs) one r.is.counted in (
      alone.0,
      ap (λ (k : EventContent). k.events) (sym p.2.is) ∙ ap (λ (es : List RawEvent). map event_of es) alone.1,
      ap (λ (k : EventContent). length k.runs) (sym p.2.is) ∙ runs,
    )

read_one : (bytes : List ℕ) (c : Content) → database_in bytes ≡ Ok c → IsOne bytes c
unfolding database_in
read_one bytes c is =
    let a = bind_ok (version_1_kept bytes) _ _ is in
    let b = bind_ok (events_in bytes) _ _ a.2 in
    let alone = read_events bytes b.0 a.1 b.1 in
    record { all = b.0; is = b.1; period = alone.0; events = alone.1; one = alone.2; same = ok_same (single_content b.0) c b.2 }

-- a content that is read is that of its own paths
pub read_one_owned : (bytes : List ℕ) (c : Content) → database_in bytes ≡ Ok c → IsProfile c
read_one_owned bytes c is = (let r = read_one bytes c is in subst IsProfile r.same (single_profile r.all r.period r.events (read_owned bytes r.all r.is)))

-- and it is spelled by the bytes
pub read_one_spelled : (bytes : List ℕ) (c : Content) → IsBytes bytes → database_in bytes ≡ Ok c → bytes ≡ database_spelling c
unfolding database_spelling
read_one_spelled bytes c are is =
    let r = read_one bytes c is in
    read_spelled bytes r.all are r.is
    ∙ ap events_spelling (sym (single_again r.all r.period r.events r.one) ∙ ap (with_event Retired) r.same)

pub read_one_again : (bytes : List ℕ) (c : Content) → IsBytes bytes → database_in bytes ≡ Ok c → database_in (database_spelling c) ≡ Ok c
read_one_again bytes c are is = subst (λ (b : List ℕ). database_in b ≡ Ok c) (read_one_spelled bytes c are is) is

pub given_one : (bytes : List ℕ) (r : Result Content (Fail DbFault)) → Gives (λ (k : Content). k) r (database_in bytes) → IfOk r (λ k. IsProfile k)
given_one bytes (Ok c) is = read_one_owned bytes c is
given_one bytes (Err fail) is = tt
