-- What a pass owes after a claim and after an offer.
use Rattle.std.proofs.Common.{◌≡◌, ℕ, ◌+◌, ◌<◌, ◌≤◌, Bool, cond, [], ◌++◌, ap, ◌∙◌, sym, subst, length, arith, lt-ltb, Option, Some, None, IfSome, MatchOption}
use Rattle.stripe_table.specs.declared.view.PassView.{PassView}
use Rattle.stripe_table.specs.declared.view.Hold.TheVariants.{Free}
use Rattle.stripe_table.specs.declared.offer.Offered.{Offered}
use Rattle.stripe_table.specs.declared.offer.Offered.TheVariants.{Merged, Present, Busy, Memory}
use Rattle.stripe_table.specs.Views.{owes, after_draw, times_piece, chunk_pieces}
use Rattle.stripe_table.specs.Calls.{OfferedAs}
use Rattle.stripe_table.proofs.Sums.{piece_else, piece_append, pieces_have}

pub others : (s c : ℕ) (v w : PassView) (r : Offered) → OfferedAs s c v w r → (d t : ℕ) → (d ≡ c → t ≡ s → ⊥) → owes d t w ≡ owes d t v
others s c v w Merged o d t ne = ap (owes d t) o.1 ∙ piece_else d t c s v.owed ne
others s c v w (Present p) o d t ne = ap (owes d t) o ∙ piece_else d t c s v.owed ne
others s c v w (Busy l f) o d t ne = ap (owes d t) o
others s c v w (Memory failed) o d t ne = ap (owes d t) o

pub still_free : (s c : ℕ) (v w : PassView) (r : Offered) → OfferedAs s c v w r → v.hold ≡ Free → w.hold ≡ Free
still_free s c v w Merged o free = ap (λ (z : PassView). z.hold) o.1
still_free s c v w (Present p) o free = ap (λ (z : PassView). z.hold) o
still_free s c v w (Busy l f) o free = ap (λ (z : PassView). z.hold) o ∙ free
still_free s c v w (Memory failed) o free = ap (λ (z : PassView). z.hold) o

drawn : (c s : ℕ) (v : PassView) → c < length v.plan → s < 16 → 0 < owes c s (after_draw c v)
drawn c s v lt h = let a : owes c s (after_draw c v) ≡ owes c s v + times_piece c s (chunk_pieces c 16) = ap (λ (b : Bool). times_piece c s (v.owed ++ cond b (chunk_pieces c 16) [])) (lt-ltb c (length v.plan) lt) ∙ piece_append c s v.owed (chunk_pieces c 16) in
    let r = pieces_have c 16 s h in omega arith

-- the pieces of a chunk that was drawn are owed
pub claimed : (n w : ℕ) (v u : PassView) (r : Option ℕ) → length v.plan ≡ n → u ≡ after_draw w v → MatchOption r (n ≤ w) (λ c. (c ≡ w) × (c < n)) → IfSome r (λ c. (s : ℕ) → s < 16 → 0 < owes c s u)
claimed n w v u None long is m = tt
claimed n w v u (Some c) long is m = λ s lt. subst (λ (z : ℕ × PassView). 0 < owes z.0 s z.1) (λ i. (sym m.0 i, sym is i)) (drawn w s v (let a = m.0 in let b = m.1 in omega arith) lt)
