-- What a read of the reader gave, by its answer.
use Rattle.std.proofs.Common.{◌≡◌, Result, Ok, Err, refl, sym, ap, ◌∙◌}
use Rattle.prof_bytes.specs.Fields.{Input, answered}

abbrev Answer : Type 0 → Type 0 → Type 0
Answer X F = Result X F × Input F

again : {X F : Type 0} → Answer X F → Result (X × Input F) F
again (Ok x, after) = Ok (x, after)
again (Err f, after) = Err f

answered_again : {X F : Type 0} (before : Input F) (read : Result (X × Input F) F) → again (answered before read) ≡ read
unfolding again
answered_again before (Ok r) = refl
answered_again before (Err f) = refl

pub was_read : {X F : Type 0} (read : Result (X × Input F) F) (x : X) (before after : Input F) → (Ok x, after) ≡ answered before read → read ≡ Ok (x, after)
unfolding again
was_read {X = X} {F = F} read x before after e = sym (answered_again before read) ∙ sym (ap (λ (a : Answer X F). again a) e)

pub was_refused : {X F : Type 0} (read : Result (X × Input F) F) (fault : F) (before after : Input F) → (Err fault, after) ≡ answered before read → read ≡ Err fault
unfolding again
was_refused {X = X} {F = F} read fault before after e = sym (answered_again before read) ∙ sym (ap (λ (a : Answer X F). again a) e)
