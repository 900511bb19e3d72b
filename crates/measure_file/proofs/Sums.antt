-- Of no paths the sums are 0.
use Rattle.std.proofs.Common.{◌≡◌, ℕ, zero, suc, List, [], length, sum_by, replicate, refl, ap, ◌∙◌, arith}
use Rattle.std.proofs.lemmas.List.Sums.{sum_by-cons}
use Rattle.scope_types.specs.declared.frame.Counted.{Counted}
use Rattle.scope_types.specs.Distinct.{frames_in, samples_in}
use Rattle.measure_file.specs.private.Sums.{AreSums}

none : (f : Counted → ℕ) (columns : ℕ) → sum_by (sum_by f) (replicate columns []) ≡ 0
none f zero = refl
none f (suc columns) = (let parts = sum_by-cons (sum_by f) [] (replicate columns []) in let rest = none f columns in omega (arith, parts, rest))

pub no_sums : (tables : List (List Counted)) (columns : ℕ) → tables ≡ replicate columns [] → AreSums tables 0 0
no_sums tables columns is =
    let samples : samples_in tables ≡ 0 = ap samples_in is ∙ none (λ c. c.count) columns in
    let frames : frames_in tables ≡ 0 = ap frames_in is ∙ none (λ c. length c.path.frames) columns in
    record {
      samples = omega (arith, samples);
      few_samples = omega arith;
      frames = omega (arith, frames);
      few_frames = omega arith;
    }
