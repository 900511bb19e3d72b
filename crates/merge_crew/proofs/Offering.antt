-- How often pieces were offered.
use Rattle.std.proofs.Common.{Option, Some, None, true≢false, ◌≡◌, ℕ, zero, suc, ◌+◌, ◌-◌, ◌*◌, ◌<◌, ◌≤◌, ◌&&◌, eqb, Bool, true, false, cond, List, [], ◌∷◌, ◌++◌, length, length-append, map, refl, sym, ap, ◌∙◌, subst, arith, ltb, lt-ltb, ne_eqb}
use Rattle.core.specs.Option.{is_some}
use mathlib.Core.Logic.{dite}
use native.Mathlib.Decide.{ℕ_discrete, dec_lt}
use Rattle.scope_types.specs.declared.path.Piece.{Piece}
use Rattle.thread_cct.specs.Plan.{pieces_of}
use Rattle.stripe_table.specs.Calls.{OfferedAs}
use Rattle.stripe_table.specs.Limits.{Chunks}
use Rattle.stripe_table.specs.Values.{PassValue}
use Rattle.stripe_table.specs.Views.{after_draw, after_join, chunk_pieces, draws, is_piece, occurrences, owes, times_piece, total, weight, without}
use Rattle.stripe_table.specs.declared.offer.Offered.{Offered}
use Rattle.stripe_table.specs.declared.offer.Offered.TheVariants.{Merged, Present, Busy, Memory}
use Rattle.stripe_table.specs.declared.view.PassView.{PassView}
use Rattle.stripe_table.proofs.Sums.{piece_append, piece_else, piece_self, pieces_are, times_append, times_snoc, total_snoc}
use Rattle.merge_crew.specs.private.Offers.{OwesLess}
use Rattle.merge_crew.specs.private.Waits.{Offering, first_time, later, left_at}
use Rattle.merge_crew.specs.declared.work.Waiting.{Waiting}
use Rattle.merge_crew.proofs.Waiting.{is_at, new_owed, new_pieces, total_append}

-- ---- one piece is owed less

removed : (c s : ℕ) (xs : List (ℕ × ℕ)) → 0 < times_piece c s xs → times_piece c s (without c s xs) + 1 ≡ times_piece c s xs
removed c s [] h = absurd (omega arith)
removed c s (x ∷ xs) h = test (λ z. removed c s xs z) (is_piece c s x) refl
  where
    test : (0 < times_piece c s xs → times_piece c s (without c s xs) + 1 ≡ times_piece c s xs) → (b : Bool) → is_piece c s x ≡ b → times_piece c s (without c s (x ∷ xs)) + 1 ≡ times_piece c s (x ∷ xs)
    test r true e = let a : times_piece c s (without c s (x ∷ xs)) ≡ times_piece c s xs = ap (λ (b : Bool). times_piece c s (cond b xs (x ∷ without c s xs))) e in let w : weight (is_piece c s x) ≡ 1 = ap weight e in omega arith
    test r false e = let a : times_piece c s (without c s (x ∷ xs)) ≡ times_piece c s (x ∷ without c s xs) = ap (λ (b : Bool). times_piece c s (cond b xs (x ∷ without c s xs))) e in let w : weight (is_piece c s x) ≡ 0 = ap weight e in
        let z = r (omega arith) in omega arith

nothing : (b : Bool) → weight (b && false) ≡ 0
nothing true = refl
nothing false = refl

less_owed : (c s : ℕ) (xs : List (ℕ × ℕ)) → 0 < times_piece c s xs → (d t : ℕ) → times_piece d t (without c s xs) + weight (is_piece d t (c, s)) ≡ times_piece d t xs
less_owed c s xs h d t = dite (ℕ_discrete d c)
    (λ a. dite (ℕ_discrete t s)
    (λ b.
    let w : weight (is_piece d t (c, s)) ≡ 1 = ap weight ((λ i. is_piece d t (sym a i, sym b i)) ∙ piece_self d t) in
    let e : times_piece d t (without c s xs) ≡ times_piece d t (without d t xs) = λ i. times_piece d t (without (sym a i) (sym b i) xs) in
    let g : times_piece d t xs ≡ times_piece c s xs = λ i. times_piece (a i) (b i) xs in
    let o = removed d t xs (omega arith) in omega arith)
    (λ nb. let w : weight (is_piece d t (c, s)) ≡ 0 = (λ i. weight (eqb d c && ne_eqb t s nb i)) ∙ nothing (eqb d c) in let e = piece_else d t c s xs (λ p q. nb q) in omega arith))
    (λ na. let w : weight (is_piece d t (c, s)) ≡ 0 = λ i. weight (ne_eqb d c na i && eqb t s) in let e = piece_else d t c s xs (λ p q. na p) in omega arith)

less_long : (c s : ℕ) (xs : List (ℕ × ℕ)) → 0 < times_piece c s xs → length (without c s xs) + 1 ≡ length xs
less_long c s [] h = absurd (omega arith)
less_long c s (x ∷ xs) h = test (λ z. less_long c s xs z) (is_piece c s x) refl
  where
    test : (0 < times_piece c s xs → length (without c s xs) + 1 ≡ length xs) → (b : Bool) → is_piece c s x ≡ b → length (without c s (x ∷ xs)) + 1 ≡ length (x ∷ xs)
    test r true e = let a : length (without c s (x ∷ xs)) ≡ length xs = ap (λ (b : Bool). length (cond b xs (x ∷ without c s xs))) e in omega arith
    test r false e = let a : length (without c s (x ∷ xs)) ≡ length (x ∷ without c s xs) = ap (λ (b : Bool). length (cond b xs (x ∷ without c s xs))) e in let w : weight (is_piece c s x) ≡ 0 = ap weight e in
        let z = r (omega arith) in omega arith

pub owes_less : (s c : ℕ) (v w : PassView) (r : Offered) → OfferedAs s c v w r → 0 < owes c s v → OwesLess c s v w r
owes_less s c v w Merged o h = (
  (λ d t. let e : owes d t w ≡ times_piece d t (without c s v.owed) = ap (owes d t) o.1 in let l = less_owed c s v.owed h d t in omega arith),
  (let e : length w.owed ≡ length (without c s v.owed) = ap (λ (z : PassView). length z.owed) o.1 in let l = less_long c s v.owed h in omega arith),
)
owes_less s c v w (Present p) o h = (
  (λ d t. let e : owes d t w ≡ times_piece d t (without c s v.owed) = ap (owes d t) o in let l = less_owed c s v.owed h d t in omega arith),
  (let e : length w.owed ≡ length (without c s v.owed) = ap (λ (z : PassView). length z.owed) o in let l = less_long c s v.owed h in omega arith),
)
owes_less s c v w (Busy l f) o h = tt
owes_less s c v w (Memory failed) o h = tt

-- ---- a piece is offered

paid : (t : Bool) (k o o' m m' l : ℕ) → 64 * o ≤ m + ((cond t k 0 + l) + 64 * 0) → k ≤ 64 → m' ≡ m + weight t → o' + weight t ≡ o → 64 * o' ≤ m' + (l + 64 * 0)
paid true k o o' m m' l h few more less = omega arith
paid false k o o' m m' l h few more less = omega arith

spent : (t : Bool) (k o o' m m' l : ℕ) → 64 * o ≤ m + ((cond t k 0 + l) + 64 * 0) → k ≤ 1 → m' ≡ m + weight t → o' ≡ o → 64 * o' ≤ m' + (l + 64 * 0)
spent true k o o' m m' l h few more same = omega arith
spent false k o o' m m' l h few more same = omega arith

again : (t : Bool) (k k' o o' m m' l l' : ℕ) → 64 * o ≤ m + ((cond t k 0 + l) + 64 * 0) → k ≡ k' + 1 → m' ≡ m + weight t → o' ≡ o → l' ≡ l + cond t k' 0 → 64 * o' ≤ m' + (l' + 64 * 0)
again true k k' o o' m m' l l' h one more same longer = omega arith
again false k k' o o' m m' l l' h one more same longer = omega arith

-- the same of the most offers, where n is how often the piece's chunk was drawn
paid_most : (t : Bool) (k n n' m m' l : ℕ) → m + ((cond t k 0 + l) + 64 * 0) ≤ 64 * n → 1 ≤ k → m' ≡ m + weight t → n' ≡ n → m' + (l + 64 * 0) ≤ 64 * n'
paid_most true k n n' m m' l h some_left more same = omega arith
paid_most false k n n' m m' l h some_left more same = omega arith

again_most : (t : Bool) (k k' n n' m m' l l' : ℕ) → m + ((cond t k 0 + l) + 64 * 0) ≤ 64 * n → k ≡ k' + 1 → m' ≡ m + weight t → n' ≡ n → l' ≡ l + cond t k' 0 → m' + (l' + 64 * 0) ≤ 64 * n'
again_most true k k' n n' m m' l l' h one more same longer = omega arith
again_most false k k' n n' m m' l l' h one more same longer = omega arith

module _ (p : Waiting) (q : List Waiting) (a b : PassValue) (n : ℕ) (all : Offering [] (p ∷ q) a n) (few : p.offers < 64) (more : b.offered ≡ a.offered ++ (p.piece.chunk, p.piece.stripe) ∷ []) (drawn : b.view.drawn ≡ a.view.drawn) where
  abbrev at : ℕ → ℕ → Bool
  at d t = is_piece d t (p.piece.chunk, p.piece.stripe)

  offered_once : (d t : ℕ) → times_piece d t b.offered ≡ times_piece d t a.offered + weight (at d t)
  offered_once d t = ap (times_piece d t) more ∙ (let e = piece_append d t a.offered ((p.piece.chunk, p.piece.stripe) ∷ []) in omega arith)

  no_more : (d t : ℕ) → times_piece d t b.offered + (total (left_at d t) q + 64 * 0) ≤ 64 * draws d b.view
  no_more d t = paid_most (at d t) (64 - p.offers) (draws d a.view) (draws d b.view) (times_piece d t a.offered) (times_piece d t b.offered) (total (left_at d t) q) (all.most d t) (omega arith) (offered_once d t) (ap (occurrences d) drawn)

  pub finished : ((d t : ℕ) → owes d t b.view + weight (at d t) ≡ owes d t a.view) → length b.view.owed + 1 ≡ length a.view.owed → Offering [] q b n
  finished less one_less = record {
    least = λ d t. paid (at d t) (64 - p.offers) (owes d t a.view) (owes d t b.view) (times_piece d t a.offered) (times_piece d t b.offered) (total (left_at d t) q) (all.least d t) (omega arith) (offered_once d t) (less d t);
    most = no_more;
    left = (let l = all.left in omega arith);
  }

  pub left_over : b.view.owed ≡ a.view.owed → 64 ≤ p.offers + 1 → Offering [] q b (n + 1)
  left_over same last = record {
    least = λ d t. spent (at d t) (64 - p.offers) (owes d t a.view) (owes d t b.view) (times_piece d t a.offered) (times_piece d t b.offered) (total (left_at d t) q) (all.least d t) (omega arith) (offered_once d t) (ap (times_piece d t) same);
    most = no_more;
    left = (let l = all.left in let e : length b.view.owed ≡ length a.view.owed = ap length same in omega arith);
  }

  pub waits_again : b.view.owed ≡ a.view.owed → p.offers + 1 < 64 → Offering [] (q ++ later p ∷ []) b n
  waits_again same next = record {
    least = λ d t. again (at d t) (64 - p.offers) (64 - (p.offers + 1)) (owes d t a.view) (owes d t b.view) (times_piece d t a.offered) (times_piece d t b.offered) (total (left_at d t) q) (total (left_at d t) (q ++ later p ∷ [])) (all.least d t) (omega arith) (offered_once d t) (ap (times_piece d t) same) (total_snoc (left_at d t) q (later p));
    most = λ d t. again_most (at d t) (64 - p.offers) (64 - (p.offers + 1)) (draws d a.view) (draws d b.view) (times_piece d t a.offered) (times_piece d t b.offered) (total (left_at d t) q) (total (left_at d t) (q ++ later p ∷ [])) (all.most d t) (omega arith) (offered_once d t) (ap (occurrences d) drawn) (total_snoc (left_at d t) q (later p));
    left = (let l = all.left in let e : length b.view.owed ≡ length a.view.owed = ap length same in let s = length-append q (later p ∷ []) in omega arith);
  }

-- ---- pieces that come next

fresh_left : (t : Bool) → cond t (64 - 0) 0 ≡ 64 * weight t
fresh_left true = omega arith
fresh_left false = omega arith

fresh_lefts : (d t : ℕ) (ps : List Piece) → total (left_at d t) (map first_time ps) ≡ 64 * total (is_at d t) (map first_time ps)
fresh_lefts d t [] = omega arith
fresh_lefts d t (p ∷ ps) = let r = fresh_lefts d t ps in let f = fresh_left (is_piece d t (p.chunk, p.stripe)) in omega arith

pub chunk_offers : (plan : Chunks) (q : List Waiting) (c : ℕ) (a : PassValue) (n : ℕ) → Offering (chunk_pieces c 16) q a n → Offering [] (q ++ new_pieces plan c) a n
chunk_offers plan q c a n old = record {
  least = λ d t. let o = old.least d t in let e = new_owed plan c d t in let s = total_append (left_at d t) q (new_pieces plan c) in let f = fresh_lefts d t (pieces_of plan c) in omega arith;
  most = λ d t. let o = old.most d t in let e = new_owed plan c d t in let s = total_append (left_at d t) q (new_pieces plan c) in let f = fresh_lefts d t (pieces_of plan c) in omega arith;
  left = (let l = old.left in let s = length-append q (new_pieces plan c) in let k : length (chunk_pieces c 16) ≡ 16 = refl in let m : length (new_pieces plan c) ≡ 16 = refl in omega arith);
}

less_weight : (b t : Bool) → weight (b && t) ≤ weight b
less_weight true true = omega arith
less_weight true false = omega arith
less_weight false t = omega arith

-- a chunk has each piece once
pieces_once : (c d s k : ℕ) → times_piece d s (chunk_pieces c k) ≤ weight (eqb d c)
pieces_once c d s zero = omega arith
pieces_once c d s (suc k) = dite (ℕ_discrete s k)
    (λ e. let w : weight (is_piece d s (c, k)) ≤ weight (eqb d c) = less_weight (eqb d c) (eqb s k) in
    let z : times_piece d s (chunk_pieces c k) ≡ 0 = dite (dec_lt 0 (times_piece d s (chunk_pieces c k))) (λ y. let r = (pieces_are c k d s y).1 in absurd (omega arith)) (λ n. omega arith) in omega arith)
    (λ ne. let w : weight (is_piece d s (c, k)) ≡ 0 = (λ i. weight (eqb d c && ne_eqb s k ne i)) ∙ nothing (eqb d c) in let r = pieces_once c d s k in omega arith)

-- after a claim
module _ (q : List Waiting) (c : ℕ) (a b : PassValue) (n : ℕ) (is : b.view ≡ after_draw c a.view) (same : b.offered ≡ a.offered) (old : Offering [] q a n) where
  claimed : (next : List (ℕ × ℕ)) → cond (ltb c (length a.view.plan)) (chunk_pieces c 16) [] ≡ next → ((d t : ℕ) → draws d a.view + times_piece d t next ≤ draws d b.view) → Offering next q b n
  claimed next e more = record {
    least = λ d t. let o = old.least d t in let s : times_piece d t b.offered ≡ times_piece d t a.offered = ap (times_piece d t) same in
        let w : owes d t b.view ≡ owes d t a.view + times_piece d t next = ap (owes d t) is ∙ (ap (λ (l : List (ℕ × ℕ)). times_piece d t (a.view.owed ++ l)) e ∙ piece_append d t a.view.owed next) in omega arith;
    most = λ d t. let o = old.most d t in let s : times_piece d t b.offered ≡ times_piece d t a.offered = ap (times_piece d t) same in let m = more d t in omega arith;
    left = (let l = old.left in let w : length b.view.owed ≡ length a.view.owed + length next = ap (λ (z : PassView). length z.owed) is ∙ (ap (λ (l : List (ℕ × ℕ)). length (a.view.owed ++ l)) e ∙ length-append a.view.owed next) in omega arith);
  }

  pub claim_offers : (plan : Chunks) → a.view.plan ≡ plan → c < length plan → Offering (chunk_pieces c 16) q b n
  claim_offers plan of lt = let in_plan : ltb c (length a.view.plan) ≡ true = lt-ltb c (length a.view.plan) (subst (λ (z : Chunks). c < length z) (sym of) lt) in
      claimed (chunk_pieces c 16) (ap (λ (t : Bool). cond t (chunk_pieces c 16) []) in_plan)
      (λ d t. let m : draws d b.view ≡ draws d a.view + weight (eqb d c) = ap (draws d) is ∙ (ap (λ (z : Bool). occurrences d (a.view.drawn ++ cond z (c ∷ []) [])) in_plan ∙ times_snoc d a.view.drawn c) in let p = pieces_once c d t 16 in omega arith)

-- ---- two workers together

pub joined_offers : (a b ab : PassValue) (n m : ℕ) → ab.view ≡ after_join a.view b.view → ab.offered ≡ a.offered ++ b.offered → Offering [] [] a n → Offering [] [] b m → Offering [] [] ab (n + m)
joined_offers a b ab n m view both x y = let s : (d t : ℕ) → times_piece d t ab.offered ≡ times_piece d t a.offered + times_piece d t b.offered = λ d t. ap (times_piece d t) both ∙ piece_append d t a.offered b.offered in record {
  least = λ d t. let e : owes d t ab.view ≡ owes d t a.view + owes d t b.view = ap (owes d t) view ∙ piece_append d t a.view.owed b.view.owed in
      let o = s d t in let f = x.least d t in let g = y.least d t in omega arith;
  most = λ d t. let e : draws d ab.view ≡ draws d a.view + draws d b.view = ap (draws d) view ∙ times_append d a.view.drawn b.view.drawn in
      let o = s d t in let f = x.most d t in let g = y.most d t in omega arith;
  left = (let e : length ab.view.owed ≡ length a.view.owed + length b.view.owed = ap (λ (z : PassView). length z.owed) view ∙ length-append a.view.owed b.view.owed in let f = x.left in let g = y.left in omega arith);
}

pub none_there : {X : Type 0} (o : Option X) → is_some o ≡ false → o ≡ None
none_there None e = refl
none_there (Some x) e = absurd (true≢false e)
