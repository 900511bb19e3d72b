-- What an offer does to the pieces that wait, and how a chunk's pieces come after them.
use Rattle.std.proofs.Common.{◌≡◌, ℕ, ◌+◌, ◌-◌, ◌<◌, ◌≤◌, Bool, true, false, cond, List, [], ◌∷◌, ◌++◌, length, map, All, sym, refl, ap, ◌∙◌, subst, arith, zero, suc, ltb, lt-ltb}
use Rattle.std.specs.List.{range_with_len}
use Rattle.std.proofs.lemmas.List.Elements.{All-append, All-cons, All-head, All-nil, All-push, All-tail}
use mathlib.Core.Logic.{dite}
use native.Mathlib.Decide.{ℕ_discrete}
use Rattle.scope_types.specs.declared.path.Piece.{Piece}
use Rattle.thread_cct.specs.Plan.{piece_of, pieces_of}
use Rattle.stripe_table.specs.Calls.{OfferedAs}
use Rattle.stripe_table.specs.Limits.{Chunks, IsPieceOf}
use Rattle.stripe_table.specs.Views.{after_draw, chunk_pieces, is_piece, owes, times_piece, total, weight, without}
use Rattle.stripe_table.specs.declared.offer.Offered.{Offered}
use Rattle.stripe_table.specs.declared.offer.Offered.TheVariants.{Merged, Present, Busy, Memory}
use Rattle.stripe_table.specs.declared.view.PassView.{PassView}
use Rattle.stripe_table.proofs.Sums.{piece_append, piece_else, piece_self, total_snoc}
use Rattle.merge_crew.specs.private.Offers.{OwesRest}
use Rattle.merge_crew.specs.private.Waits.{Waits, first_time, later, offers_left, times_waiting}
use Rattle.merge_crew.specs.declared.work.Waiting.{Waiting}

one_less : (c s : ℕ) (xs : List (ℕ × ℕ)) → times_piece c s xs ≤ times_piece c s (without c s xs) + 1
one_less c s [] = omega arith
one_less c s (x ∷ xs) = let r = one_less c s xs in elim (is_piece c s x) as (λ b. weight b + times_piece c s xs ≤ times_piece c s (cond b xs (x ∷ without c s xs)) + 1) [ true ↦ omega arith | false ↦ omega arith ]

rest_owed : (d t c s : ℕ) (xs : List (ℕ × ℕ)) → times_piece d t xs ≤ times_piece d t (without c s xs) + weight (is_piece d t (c, s))
rest_owed d t c s xs = dite (ℕ_discrete d c)
    (λ a. dite (ℕ_discrete t s)
    (λ b.
    let w : weight (is_piece d t (c, s)) ≡ 1 = ap weight ((λ i. is_piece d t (sym a i, sym b i)) ∙ piece_self d t) in
    let e : times_piece d t (without c s xs) ≡ times_piece d t (without d t xs) = λ i. times_piece d t (without (sym a i) (sym b i) xs) in
    let o = one_less d t xs in omega arith)
    (λ nb. let e = piece_else d t c s xs (λ p q. nb q) in omega arith))
    (λ na. let e = piece_else d t c s xs (λ p q. na p) in omega arith)

-- what is owed after an offer
pub owes_rest : (s c : ℕ) (v w : PassView) (r : Offered) → OfferedAs s c v w r → OwesRest c s v w
owes_rest s c v w Merged o d t = let e : owes d t w ≡ times_piece d t (without c s v.owed) = ap (owes d t) o.1 in let r = rest_owed d t c s v.owed in omega arith
owes_rest s c v w (Present p) o d t = let e : owes d t w ≡ times_piece d t (without c s v.owed) = ap (owes d t) o in let r = rest_owed d t c s v.owed in omega arith
owes_rest s c v w (Busy l f) o d t = let e : owes d t w ≡ owes d t v = ap (owes d t) o in omega arith
owes_rest s c v w (Memory failed) o d t = let e : owes d t w ≡ owes d t v = ap (owes d t) o in omega arith

pub total_append : (f : Waiting → ℕ) (xs ys : List Waiting) → total f (xs ++ ys) ≡ total f xs + total f ys
total_append f [] ys = omega arith
total_append f (x ∷ xs) ys = let r = total_append f xs ys in omega arith

abbrev is_of : Chunks → Waiting → Type 0
is_of plan p = IsPieceOf plan p.piece

abbrev is_few : Waiting → Type 0
is_few p = p.offers < 64

abbrev pub offers : Waiting → ℕ
offers p = p.offers

abbrev left : Waiting → ℕ
left p = 64 - p.offers

abbrev pub is_at : ℕ → ℕ → Waiting → ℕ
is_at d t p = weight (is_piece d t (p.piece.chunk, p.piece.stripe))

-- the first of those that wait is offered
module _ (plan : Chunks) (p : Waiting) (q : List Waiting) (v : PassView) (n : ℕ) (all : Waits plan (p ∷ q) v n) where
  pub first_is_owed : 0 < owes p.piece.chunk p.piece.stripe v
  first_is_owed = let o = all.owed p.piece.chunk p.piece.stripe in let one : weight (is_piece p.piece.chunk p.piece.stripe (p.piece.chunk, p.piece.stripe)) ≡ 1 = ap weight (piece_self p.piece.chunk p.piece.stripe) in omega arith

  pub first_is_piece : IsPieceOf plan p.piece
  first_is_piece = All-head (is_of plan) p q all.pieces

  pub first_is_few : p.offers < 64
  first_is_few = All-head is_few p q all.few

  pub taken : (w : PassView) → OwesRest p.piece.chunk p.piece.stripe v w → v.busy ≤ w.busy → Waits plan q w n
  taken w rest busy = record {
    pieces = All-tail (is_of plan) p q all.pieces;
    few = All-tail is_few p q all.few;
    owed = λ d t. let o = all.owed d t in let r = rest d t in omega arith;
    busy = (let b = all.busy in omega arith);
  }

  pub given_up : (w : PassView) → OwesRest p.piece.chunk p.piece.stripe v w → v.busy + 1 ≤ w.busy → 64 ≤ p.offers + 1 → Waits plan q w (n + 1)
  given_up w rest busy last = record {
    pieces = All-tail (is_of plan) p q all.pieces;
    few = All-tail is_few p q all.few;
    owed = λ d t. let o = all.owed d t in let r = rest d t in omega arith;
    busy = (let b = all.busy in omega arith);
  }

  pub set_back : (w : PassView) → w.owed ≡ v.owed → v.busy + 1 ≤ w.busy → p.offers + 1 < 64 → Waits plan (q ++ later p ∷ []) w n
  set_back w same busy again = record {
    pieces = All-push (is_of plan) q (later p) (All-tail (is_of plan) p q all.pieces) (All-head (is_of plan) p q all.pieces);
    few = All-push is_few q (later p) (All-tail is_few p q all.few) again;
    owed = λ d t. let o = all.owed d t in let e : owes d t w ≡ owes d t v = ap (times_piece d t) same in let a = total_snoc (is_at d t) q (later p) in omega arith;
    busy = (let b = all.busy in let a = total_snoc offers q (later p) in omega arith);
  }

-- fewer offers are left
pub fewer_back : (p : Waiting) (q : List Waiting) → p.offers < 64 → offers_left (q ++ later p ∷ []) < offers_left (p ∷ q)
fewer_back p q few = let a = total_snoc left q (later p) in omega arith

-- ---- a chunk's pieces

abbrev pub new_pieces : Chunks → ℕ → List Waiting
new_pieces plan c = map first_time (pieces_of plan c)

pub new_owed : (plan : Chunks) (c d t : ℕ) → total (is_at d t) (new_pieces plan c) ≡ times_piece d t (chunk_pieces c 16)
new_owed plan c d t = omega arith

are_pieces : (plan : Chunks) (c : ℕ) → c < length plan → All (is_of plan) (new_pieces plan c)
are_pieces plan c lt = each 16 0 (omega arith)
  where
    each : (k s : ℕ) → s + k ≤ 16 → All (is_of plan) (map first_time (map (piece_of plan c) (range_with_len s k)))
    each zero s le = All-nil (is_of plan)
    each (suc k) s le = All-cons (is_of plan) (first_time (piece_of plan c s)) (map first_time (map (piece_of plan c) (range_with_len (s + 1) k))) (record { chunk = lt; stripe = omega arith; is = refl }) (each k (s + 1) (omega arith))

all_few : (ps : List Piece) → All is_few (map first_time ps)
all_few [] = All-nil is_few
all_few (p ∷ ps) = All-cons is_few (first_time p) (map first_time ps) (omega arith) (all_few ps)

pub chunk_waits : (plan : Chunks) (q : List Waiting) (c : ℕ) (v : PassView) (n : ℕ) → Waits plan q v n → c < length plan → ((d t : ℕ) → times_waiting d t q + times_piece d t (chunk_pieces c 16) ≤ owes d t v) → Waits plan (q ++ new_pieces plan c) v n
chunk_waits plan q c v n old lt more = record {
  pieces = All-append (is_of plan) q (new_pieces plan c) old.pieces (are_pieces plan c lt);
  few = All-append is_few q (new_pieces plan c) old.few (all_few (pieces_of plan c));
  owed = λ d t. let m = more d t in let e = new_owed plan c d t in let a = total_append (is_at d t) q (new_pieces plan c) in omega arith;
  busy = (let b = old.busy in let a = total_append offers q (new_pieces plan c) in let z : total offers (new_pieces plan c) ≡ 0 = refl in omega arith);
}

-- what is owed after a claim
pub claim_owes : (plan : Chunks) (q : List Waiting) (c : ℕ) (v w : PassView) (n : ℕ) → v.plan ≡ plan → c < length plan → w ≡ after_draw c v → Waits plan q v n → (d t : ℕ) → times_waiting d t q + times_piece d t (chunk_pieces c 16) ≤ owes d t w
claim_owes plan q c v w n same lt is old d t =
    let a : owes d t w ≡ owes d t v + times_piece d t (chunk_pieces c 16) = ap (owes d t) is ∙ (ap (λ (b : Bool). times_piece d t (v.owed ++ cond b (chunk_pieces c 16) [])) (lt-ltb c (length v.plan) (subst (λ (z : Chunks). c < length z) (sym same) lt)) ∙ piece_append d t v.owed (chunk_pieces c 16)) in
    let o = old.owed d t in omega arith

pub claim_waits : (plan : Chunks) (q : List Waiting) (c : ℕ) (v w : PassView) (n : ℕ) → w ≡ after_draw c v → Waits plan q v n → Waits plan q w n
claim_waits plan q c v w n is old = record {
  pieces = old.pieces;
  few = old.few;
  owed = λ d t. let a : owes d t w ≡ owes d t v + times_piece d t (cond (ltb c (length v.plan)) (chunk_pieces c 16) []) = ap (owes d t) is ∙ piece_append d t v.owed (cond (ltb c (length v.plan)) (chunk_pieces c 16) []) in let o = old.owed d t in omega arith;
  busy = (let b = old.busy in let e : w.busy ≡ v.busy = ap (λ (z : PassView). z.busy) is in omega arith);
}
