-- What the table means: no word has two rows, so each word that has a row's encoding decodes to it,
-- and a word that has none is illegal.
use Rattle.std.proofs.Common.{◌≡◌, ◌==◌, ◌&&◌, ◌||◌, ◌<◌, ℕ, zero, suc, Bool, true, false, not, cond, List, [], ◌∷◌, Some, length, refl, sym, ap, subst, ◌∙◌, arith}
use Rattle.std.specs.List.{find, Contains, slice_index_or}
use Rattle.std.proofs.lemmas.Bool.{eqb-true, eq-eqb, and_parts}
use Rattle.rv_table.specs.Fields.{opcode, funct3, funct7, laid_out}
use Rattle.rv_table.specs.Table.{Selector, funct3_is, functs_are, word_is, Row, table, selects, has_encoding, by_row, decoded}

abbrev selectors_apart : Selector → Selector → Bool
selectors_apart (funct3_is a) (funct3_is b) = not (a == b)
selectors_apart (funct3_is a) (functs_are b d) = not (a == b)
selectors_apart (functs_are a c) (funct3_is b) = not (a == b)
selectors_apart (functs_are a c) (functs_are b d) = not (a == b) || not (c == d)
selectors_apart (word_is a) (word_is b) = not (a == b)
selectors_apart _ _ = false

-- a test that two rows pass only where no word has both encodings
abbrev apart : Row → Row → Bool
apart r s = not (r.code == s.code) || selectors_apart r.selector s.selector

abbrev apart_from_all : Row → List Row → Bool
apart_from_all r [] = true
apart_from_all r (s ∷ rows) = apart r s && apart_from_all r rows

abbrev all_apart : List Row → Bool
all_apart [] = true
all_apart (r ∷ rows) = apart_from_all r rows && all_apart rows

unlike : (a b n : ℕ) → not (a == b) ≡ true → (n == a) ≡ true → (n == b) ≡ true → ⊥
unlike a b n differ first second =
    let same : a ≡ b = sym (eqb-true n a first) ∙ eqb-true n b second in
    let equal : (a == b) ≡ true = eq-eqb a b same in
    let clash : not (a == b) ≡ false = ap not equal in
    cc

either : (a b : Bool) → (a || b) ≡ true → (a ≡ true → ⊥) → (b ≡ true → ⊥) → ⊥
either true b one left right = left refl
either false b one left right = right one

selectors_apart-fits : (word : ℕ) (a b : Selector) → selectors_apart a b ≡ true → selects word a ≡ true → selects word b ≡ true → ⊥
selectors_apart-fits word (funct3_is a) (funct3_is b) differ first second = unlike a b (funct3 word) differ first second
selectors_apart-fits word (funct3_is a) (functs_are b d) differ first second =
    unlike a b (funct3 word) differ first (and_parts _ _ second).0
selectors_apart-fits word (functs_are a c) (funct3_is b) differ first second =
    unlike a b (funct3 word) differ (and_parts _ _ first).0 second
selectors_apart-fits word (functs_are a c) (functs_are b d) differ first second =
    either (not (a == b)) (not (c == d)) differ
    (λ differ. unlike a b (funct3 word) differ (and_parts _ _ first).0 (and_parts _ _ second).0)
    (λ differ. unlike c d (funct7 word) differ (and_parts _ _ first).1 (and_parts _ _ second).1)
selectors_apart-fits word (word_is a) (word_is b) differ first second = unlike a b word differ first second
selectors_apart-fits _ _ _ differ first second = cc

apart-fits : (word : ℕ) (r s : Row) → apart r s ≡ true → has_encoding word r ≡ true → has_encoding word s ≡ true → ⊥
apart-fits word r s differ first second =
    let f : (opcode word == r.code) ≡ true × selects word r.selector ≡ true = and_parts _ _ first in
    let g : (opcode word == s.code) ≡ true × selects word s.selector ≡ true = and_parts _ _ second in
    either (not (r.code == s.code)) (selectors_apart r.selector s.selector) differ
    (λ differ. unlike r.code s.code (opcode word) differ f.0 g.0)
    (λ differ. selectors_apart-fits word r.selector s.selector differ f.1 g.1)

-- the list has this row
data Has : List Row → Row → Type 0 where
  here : (r : Row) (rows : List Row) → Has (r ∷ rows) r
  there : (r s : Row) (rows : List Row) → Has rows s → Has (r ∷ rows) s

-- a row is apart from each row that a list has
apart_one : (r : Row) (rows : List Row) (s : Row) → Has rows s → apart_from_all r rows ≡ true → apart r s ≡ true
apart_one _ _ _ (here s rows) differ = (and_parts _ _ differ).0
apart_one r _ _ (there t s rows has) differ = apart_one r rows s has (and_parts _ _ differ).1

no_fit : (b : Bool) → (b ≡ true → ⊥) → b ≡ false
no_fit true not_so = absurd (not_so refl)
no_fit false not_so = refl

finds : (word : ℕ) (rows : List Row) (r : Row) → Has rows r → all_apart rows ≡ true → has_encoding word r ≡ true → find (has_encoding word) rows ≡ Some r
finds word _ _ (here r rows) apart fit = ap (λ (b : Bool). cond b (Some r) (find (has_encoding word) rows)) fit
finds word _ _ (there t r rows has) all fit =
    let apart_here : apart t r ≡ true = apart_one t rows r has (and_parts _ _ all).0 in
    let passed : has_encoding word t ≡ false = no_fit (has_encoding word t) (λ first. apart-fits word t r apart_here first fit) in
    ap (λ (b : Bool). cond b (Some t) (find (has_encoding word) rows)) passed ∙ finds word rows r has (and_parts _ _ all).1 fit

-- a list that contains a row has it
has_at : (rows : List Row) (k : ℕ) (r : Row) → k < length rows → slice_index_or rows k r ≡ r → Has rows r
has_at [] k r less is = absurd (omega arith)
has_at (s ∷ rows) zero r less is = subst (λ (x : Row). Has (s ∷ rows) x) is (here s rows)
has_at (s ∷ rows) (suc k) r less is = there s r rows (has_at rows k r (omega arith) is)

row_found : (word : ℕ) (r : Row) → Contains table r → has_encoding word r ≡ true → find (has_encoding word) table ≡ Some r
row_found word r has fit = finds word table r (has_at table has.0 r has.1 has.2) refl fit

-- each word that has a row's encoding decodes to that row
pub each_row_decodes : (word : ℕ) (r : Row) → Contains table r → has_encoding word r ≡ true → decoded word ≡ laid_out r.format r.operation word
each_row_decodes word r has fit = ap (by_row word) (row_found word r has fit)

-- no word has two rows
pub one_row : (word : ℕ) (r s : Row) → Contains table r → Contains table s → has_encoding word r ≡ true → has_encoding word s ≡ true → r ≡ s
one_row word r s first second fit_first fit_second =
    let both : Some r ≡ Some s = sym (row_found word r first fit_first) ∙ row_found word s second fit_second in
    cc
