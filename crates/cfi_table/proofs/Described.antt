-- The frame descriptions of a table: what they say at an address, and where they start.
use Rattle.std.proofs.Common.{◌≡◌, ℕ, Bool, true, false, cond, List, [], ◌∷◌, map, Option, Some, None, refl, ap}
use Rattle.std.specs.Prelude.{find}
use Rattle.std.specs.Option.{option_and_then}
use Rattle.address_ranges.specs.Ranges.{holds}
use Rattle.cfi_table.specs.declared.fde.Fde.{Fde}
use Rattle.cfi_table.specs.declared.rules.Rules.{Rules}
use Rattle.cfi_table.specs.Frames.{Frames, FrameDescription, described, descriptions, fde_at, fde_range, rules_at, rules_of, starts_of}

rules_among : (section : List ℕ) (fdes : List Fde) (address : ℕ) → rules_at (map (described section) fdes) address ≡ option_and_then (rules_of section address) (find (λ fde. holds address (fde_range fde)) fdes)
rules_among section [] address = refl
rules_among section (fde ∷ fdes) address = go (holds address (fde_range fde)) (rules_among section fdes address)
  where
    go : (b : Bool) → rules_at (map (described section) fdes) address ≡ option_and_then (rules_of section address) (find (λ f. holds address (fde_range f)) fdes)
        → option_and_then (λ (d : FrameDescription). d.rules address) (cond b (Some (described section fde)) (find (λ d. holds address d.range) (map (described section) fdes)))
        ≡ option_and_then (rules_of section address) (cond b (Some fde) (find (λ f. holds address (fde_range f)) fdes))
    go true others = refl
    go false others = others

-- the rules are those of the first FDE that holds the address
pub rules_by_fde : (frames : Frames) (address : ℕ) → rules_at (descriptions frames) address ≡ option_and_then (rules_of frames.section address) (fde_at frames address)
rules_by_fde frames address = rules_among frames.section frames.fdes address

starts_among : (section : List ℕ) (fdes : List Fde) → starts_of (map (described section) fdes) ≡ map (λ fde. fde.initial_location) fdes
starts_among section [] = refl
starts_among section (fde ∷ fdes) = ap (λ (ns : List ℕ). fde.initial_location ∷ ns) (starts_among section fdes)

pub starts_of_fdes : (frames : Frames) → starts_of (descriptions frames) ≡ map (λ fde. fde.initial_location) frames.fdes
starts_of_fdes frames = starts_among frames.section frames.fdes
