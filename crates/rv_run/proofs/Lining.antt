-- The first line of a text, and the lines that tell something.
use Rattle.std.proofs.Common.{◌≡◌, ℕ, zero, suc, ◌+◌, ◌<◌, ◌==◌, Bool, true, false, cond, List, [], ◌∷◌, ◌++◌, length, take, drop, get_or, Option, Some, None, Result, Ok, Err, append_assoc, append-nil, refl, sym, ap, subst, ◌∙◌, arith, inl, inr, lt-ltb}
use Rattle.std.specs.List.{All, position, position_or_len}
use Rattle.std.proofs.lemmas.Bool.{cases_lt}
use Rattle.std.proofs.lemmas.List.Elements.{All-push}
use Rattle.std.proofs.lemmas.List.Sums.{fails_before_first}
use Rattle.std.proofs.lemmas.List.Quantifiers.{position-Some}
use Rattle.prof_bytes.specs.Outcome.{◌>>=◌}
use Rattle.rv_run.specs.declared.schedule.Slice.{Slice}
use Rattle.rv_run.specs.declared.schedule.ScheduleFault.{ScheduleFault}
use Rattle.rv_run.specs.Schedule.{lines, with_first_byte, NumberedLine, numbered_lines, slices_before, on_line, slice_in, slices_of}
use Rattle.rv_run.specs.private.Reading.{first_or_none, rest_of}

abbrev is_feed : ℕ → Bool
is_feed byte = byte == 10

-- a line that ends in a line feed
cut : (bytes : List ℕ) (end : ℕ) → end < length bytes → is_feed (get_or bytes end 0) ≡ true → ((k : ℕ) → k < end → is_feed (get_or bytes k 0) ≡ false)
    → lines bytes ≡ take end bytes ∷ lines (drop (suc end) bytes)
unfolding lines
cut [] end within feed others = absurd (omega arith)
cut (byte ∷ rest) zero within feed others = ap (λ (b : Bool). cond b ([] ∷ lines rest) (with_first_byte byte (lines rest))) feed
cut (byte ∷ rest) (suc end) within feed others =
    ap (λ (b : Bool). cond b ([] ∷ lines rest) (with_first_byte byte (lines rest))) (others 0 (omega arith))
    ∙ ap (with_first_byte byte) (cut rest end (omega arith) feed (λ k less. others (suc k) (omega arith)))

-- the last line, where nothing ends it
last : (bytes : List ℕ) → ((k : ℕ) → k < length bytes → is_feed (get_or bytes k 0) ≡ false) → 0 < length bytes → lines bytes ≡ bytes ∷ []
unfolding lines
last [] others some = absurd (omega arith)
last (byte ∷ []) others some = ap (λ (b : Bool). cond b ([] ∷ []) (with_first_byte byte [])) (others 0 (omega arith))
last (byte ∷ next ∷ rest) others some =
    ap (λ (b : Bool). cond b ([] ∷ lines (next ∷ rest)) (with_first_byte byte (lines (next ∷ rest)))) (others 0 (omega arith))
    ∙ ap (with_first_byte byte) (last (next ∷ rest) (λ k less. others (suc k) (omega arith)) (omega arith))

none-passes : (p : ℕ → Bool) (xs : List ℕ) → position p xs ≡ None → (k : ℕ) → k < length xs → p (get_or xs k 0) ≡ false
none-passes p xs none k less =
    elim (cases_lt (position_or_len p xs) (length xs)) [
      | inl inside ↦ absurd (let e : Some (position_or_len p xs) ≡ None = rw (lt-ltb (position_or_len p xs) (length xs) inside) at none in cc)
      | inr past ↦ fails_before_first p xs k 0 (omega arith)
    ]

drop_all : (bytes : List ℕ) → drop (length bytes) bytes ≡ []
drop_all [] = refl
drop_all (byte ∷ rest) = drop_all rest

-- the first line, and the bytes after it
pub split-some : (bytes : List ℕ) (end : ℕ) → position is_feed bytes ≡ Some end → lines bytes ≡ take end bytes ∷ lines (drop (end + 1) bytes)
split-some bytes end found =
    let at : (end < length bytes) × (is_feed (get_or bytes end 0) ≡ true) × ((k : ℕ) → k < end → is_feed (get_or bytes k 0) ≡ false) = position-Some is_feed bytes end 0 found in
    cut bytes end at.0 at.1 at.2 ∙ ap (λ (n : ℕ). take end bytes ∷ lines (drop n bytes)) (let e : suc end ≡ end + 1 = omega arith in e)

pub split-none : (bytes : List ℕ) → position is_feed bytes ≡ None → 0 < length bytes → lines bytes ≡ bytes ∷ lines (drop (length bytes) bytes)
unfolding lines
split-none bytes none some =
    last bytes (none-passes is_feed bytes none) some ∙ ap (λ (rest : List ℕ). bytes ∷ lines rest) (sym (drop_all bytes))

pub no-lines : (bytes : List ℕ) → length bytes ≡ 0 → lines bytes ≡ []
unfolding lines
no-lines [] none = refl
no-lines (byte ∷ rest) none = absurd (omega arith)

pub line-first : (done : ℕ) (rest : List (List ℕ)) (line : List ℕ) (more : List (List ℕ)) → rest ≡ line ∷ more → Some (record { number = done + 1; bytes = line }) ≡ first_or_none (numbered_lines (done + 1) rest)
unfolding numbered_lines
line-first done rest line more is = ap (λ (ls : List (List ℕ)). first_or_none (numbered_lines (done + 1) ls)) (sym is)

pub line-rest : (done : ℕ) (rest : List (List ℕ)) (line : List ℕ) (more : List (List ℕ)) → rest ≡ line ∷ more → numbered_lines (done + 1 + 1) more ≡ rest_of (numbered_lines (done + 1) rest)
unfolding numbered_lines
line-rest done rest line more is = ap (λ (ls : List (List ℕ)). rest_of (numbered_lines (done + 1) ls)) (sym is)

pub none-first : (done : ℕ) (rest : List (List ℕ)) → rest ≡ [] → None ≡ first_or_none (numbered_lines (done + 1) rest)
unfolding numbered_lines
none-first done rest is = ap (λ (ls : List (List ℕ)). first_or_none (numbered_lines (done + 1) ls)) (sym is)

pub none-rest : (done : ℕ) (rest : List (List ℕ)) → rest ≡ [] → numbered_lines (done + 1) rest ≡ rest_of (numbered_lines (done + 1) rest)
unfolding numbered_lines
none-rest done rest is = ap (numbered_lines (done + 1)) is ∙ ap (λ (ls : List (List ℕ)). rest_of (numbered_lines (done + 1) ls)) (sym is)

-- slices that were read, and those of the lines that are left
pub before-before : (xs ys : List Slice) (rest : Result (List Slice) ScheduleFault) → slices_before xs (slices_before ys rest) ≡ slices_before (xs ++ ys) rest
before-before xs ys (Ok more) = ap (λ (all : List Slice). Ok all) (sym (append_assoc xs ys more))
before-before xs ys (Err fault) = refl

pub read-one : (harts used : ℕ) (left rest : List NumberedLine) (line : NumberedLine) (slice : Slice) → Some line ≡ first_or_none left → rest ≡ rest_of left → slice_in harts used line.bytes ≡ Some slice
    → slices_of harts used left ≡ slices_before (slice ∷ []) (slices_of harts (used + slice.count) rest)
unfolding slices_of
read-one harts used [] rest line slice first more is = absurd cc
read-one harts used (x ∷ xs) rest line slice first more is =
    let same : line ≡ x = cc in
    ap (λ (found : Option Slice). on_line x.number found >>= (λ (s : Slice). slices_before (s ∷ []) (slices_of harts (used + s.count) xs))) (ap (λ (l : NumberedLine). slice_in harts used l.bytes) (sym same) ∙ is)
    ∙ ap (λ (ls : List NumberedLine). slices_before (slice ∷ []) (slices_of harts (used + slice.count) ls)) (sym more)

pub read-bad : (harts used : ℕ) (left : List NumberedLine) (line : NumberedLine) → Some line ≡ first_or_none left → slice_in harts used line.bytes ≡ None → slices_of harts used left ≡ Err (record { line = line.number })
unfolding slices_of
read-bad harts used [] line first bad = absurd cc
read-bad harts used (x ∷ xs) line first bad =
    let same : line ≡ x = cc in
    ap (λ (found : Option Slice). on_line x.number found >>= (λ (s : Slice). slices_before (s ∷ []) (slices_of harts (used + s.count) xs))) (ap (λ (l : NumberedLine). slice_in harts used l.bytes) (sym same) ∙ bad)
    ∙ ap (λ (l : NumberedLine). Err (record { line = l.number })) (sym same)

pub read-end : (harts used : ℕ) (left : List NumberedLine) (slices : List Slice) → None ≡ first_or_none left → slices_before slices (slices_of harts used left) ≡ Ok slices
unfolding slices_of
read-end harts used [] slices none = ap (λ (all : List Slice). Ok all) (append-nil slices)
read-end harts used (x ∷ xs) slices none = absurd cc

pub fit-more : (P : Slice → Type 0) (slices : List Slice) (slice : Slice) (more : List Slice) → more ≡ slices ++ slice ∷ [] → All P slices → P slice → All P more
fit-more P slices slice more is all one = subst (λ (xs : List Slice). All P xs) (sym is) (All-push P slices slice all one)
