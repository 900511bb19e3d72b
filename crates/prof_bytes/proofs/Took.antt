-- The bytes between two offsets, which a reading of fields has taken.
use Rattle.std.proofs.Common.{◌≡◌, ℕ, ◌+◌, ◌<◌, ◌≤◌, ◌||◌, not, nat_eq, nat_lt, Bool, true, List, [], ◌++◌, length, take, drop, Result, Ok, refl, sym, ap, ap₂, subst, ◌∙◌, append_assoc, take-append-drop, drop-drop, get_or-drop}
use Rattle.std.specs.Cmp.Lexicographic.{pointwise, same_text}
use Rattle.std.proofs.lemmas.Bool.{ltb-false, not-false, or_parts}
use Rattle.std.proofs.lemmas.List.{length-take-le}
use Rattle.prof_bytes.specs.Format.{bytes_or, magic_or, number_or}
use Rattle.prof_bytes.specs.Number.{IsBytes, number_bytes, number_in}
use Rattle.prof_bytes.specs.Outcome.{◌>>=◌}
use Rattle.prof_bytes.specs.Reading.{At, left_of, moved}
use Rattle.prof_bytes.proofs.Again.{number_again}
use Rattle.prof_bytes.proofs.Outcomes.{bind_ok, guard_ok, ok_same}

pub record Took (at next : At) (text : List ℕ) : Type 0 where
  pub whole : next.whole ≡ at.whole
  pub left : left_of at ≡ text ++ left_of next

pub took_none : (at : At) → Took at at []
took_none at = record { whole = refl; left = refl }

pub took_both : {at mid next : At} {a b : List ℕ} → Took at mid a → Took mid next b → Took at next (a ++ b)
took_both {next = next} {a = a} {b = b} first second = record {
  whole = second.whole ∙ first.whole;
  left = first.left ∙ ap (λ (l : List ℕ). a ++ l) second.left ∙ sym (append_assoc a b (left_of next));
}

pub bytes_on : {at next : At} {text : List ℕ} → Took at next text → IsBytes at.whole → IsBytes next.whole
bytes_on took bytes = subst IsBytes (sym took.whole) bytes

pub bytes_left : (at : At) → IsBytes at.whole → IsBytes (left_of at)
bytes_left at bytes i = subst (λ (b : ℕ). b < 256) (sym (get_or-drop at.offset at.whole i 0)) (bytes (at.offset + i))

-- what is there and what follows it
pub stands_took : (width : ℕ) (at : At) (n : ℕ) → IsBytes at.whole → width ≤ length (left_of at) → number_in width (left_of at) ≡ n → Took at (moved width at) (number_bytes width n)
stands_took width at n bytes long is =
    let again : number_bytes width n ≡ take width (left_of at) = ap (number_bytes width) (sym is) ∙ number_again width (left_of at) long (bytes_left at bytes) in
    let rest : left_of (moved width at) ≡ drop width (left_of at) = sym (drop-drop width at.offset at.whole) in
    record { whole = refl; left = sym (ap₂ (λ (a b : List ℕ). a ++ b) again rest ∙ take-append-drop width (left_of at)) }

-- ---- what a reading gave in the end

-- what holds of the value that was made and of where it ends
pub given : {X F : Type 0} (P : X → At → Type 0) (made x : X) (end next : At) → ◌≡◌ {A = Result (X × At) F} (Ok (made, end)) (Ok (x, next)) → P made end → P x next
given {X} P made x end next is holds =
    let same : ◌≡◌ {A = X × At} (made, end) (x, next) = ok_same (made, end) (x, next) is in
    subst (λ (p : X × At). P p.0 p.1) same holds

-- ---- single fields

module _ {F : Type 0} (missing : At → F) where
  -- a number that was read is that of the bytes there, and what follows begins after them
  pub number_moved : (width : ℕ) (at next : At) (n : ℕ) → number_or missing width at ≡ Ok (n, next) → (width ≤ length (left_of at)) × (number_in width (left_of at) ≡ n) × (moved width at ≡ next)
  number_moved width at next n is =
      let whole = guard_ok (nat_lt (length (left_of at)) width) (missing at) (Ok (number_in width (left_of at), moved width at)) (n, next) is in
      let same : ◌≡◌ {A = ℕ × At} (number_in width (left_of at), moved width at) (n, next) = ok_same (number_in width (left_of at), moved width at) (n, next) whole.1 in
      (ltb-false (length (left_of at)) width whole.0, ap (λ (p : ℕ × At). p.0) same, ap (λ (p : ℕ × At). p.1) same)

  pub number_took : (width : ℕ) (at next : At) (n : ℕ) → IsBytes at.whole → number_or missing width at ≡ Ok (n, next) → Took at next (number_bytes width n)
  number_took width at next n bytes is =
      let m = number_moved width at next n is in
      subst (λ (a : At). Took at a (number_bytes width n)) m.2 (stands_took width at n bytes m.0 m.1)

  pub bytes_took : (count : ℕ) (at next : At) (text : List ℕ) → bytes_or missing count at ≡ Ok (text, next) → Took at next text × (length text ≡ count)
  bytes_took count at next text is =
      let front : List ℕ = take count (left_of at) in
      let whole = guard_ok (nat_lt (length (left_of at)) count) (missing at) (Ok (front, moved count at)) (text, next) is in
      let rest : left_of (moved count at) ≡ drop count (left_of at) = sym (drop-drop count at.offset at.whole) in
      let took : Took at (moved count at) front = record { whole = refl; left = sym (ap (λ (l : List ℕ). front ++ l) rest ∙ take-append-drop count (left_of at)) } in
      given (λ text next. Took at next text × (length text ≡ count)) front text (moved count at) next whole.1 (took, length-take-le count (left_of at) (ltb-false (length (left_of at)) count whole.0))

pub magic_took : {F : Type 0} (missing : F) (magic bytes : List ℕ) (at : At) → magic_or missing magic bytes ≡ Ok at → (record { whole = bytes; offset = 8 } ≡ at) × (bytes ≡ magic ++ drop 8 bytes)
magic_took missing magic bytes at is =
    let other : Bool = not (pointwise nat_eq (take 8 bytes) magic) in
    let whole = guard_ok (nat_lt (length bytes) 8 || other) missing (Ok (record { whole = bytes; offset = 8 })) at is in
    let parts = or_parts (nat_lt (length bytes) 8) other whole.0 in
    let test : pointwise nat_eq (take 8 bytes) magic ≡ true = not-false (pointwise nat_eq (take 8 bytes) magic) parts.1 in
    let front : take 8 bytes ≡ magic = same_text (take 8 bytes) magic (sym test) in
    (ok_same (record { whole = bytes; offset = 8 }) at whole.1, sym (take-append-drop 8 bytes) ∙ ap (λ (l : List ℕ). l ++ drop 8 bytes) front)

-- ---- one field after the other

-- a field that was read on the way to a value: what it is, its bytes, and what the rest of the reading gave
pub record Behind {X Y F : Type 0} (spelled : X → List ℕ) (at : At) (rest : X × At → Result Y F) (y : Y) : Type 0 where
  pub value : X
  pub next : At
  pub took : Took at next (spelled value)
  pub bytes : IsBytes next.whole
  pub is : rest (value, next) ≡ Ok y

pub behind : {X Y F : Type 0} (item : At → Result (X × At) F) (spelled : X → List ℕ) (one : (at next : At) (x : X) → IsBytes at.whole → item at ≡ Ok (x, next) → Took at next (spelled x))
    (at : At) (rest : X × At → Result Y F) (y : Y) → IsBytes at.whole → (item at >>= rest) ≡ Ok y → Behind spelled at rest y
behind item spelled one at rest y bytes is =
    let a = bind_ok (item at) rest y is in
    let took = one at a.0.1 a.0.0 bytes a.1 in
    record { value = a.0.0; next = a.0.1; took = took; bytes = bytes_on took bytes; is = a.2 }
