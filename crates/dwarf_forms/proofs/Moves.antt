-- Each field is read from the same bytes, and takes some of those that are left.
use Rattle.std.proofs.Common.{◌≡◌, ℕ, ◌+◌, ◌≤◌, Bool, true, false, inl, inr, List, length, take, Option, Some, None, Result, Ok, Err}
use Rattle.std.proofs.Common.{refl, sym, ap, ◌∙◌, arith}
use Rattle.std.specs.Prelude.{option_and_then, IfOk, if◌then◌else◌, ◌==◌, nat_lt}
use Rattle.std.specs.List.{position_or_len}
use Rattle.std.proofs.lemmas.Bool.{cases_lt, lt-ltb, le-ltb}
use Rattle.std.proofs.lemmas.List.{length-drop, length-take-le}
use Rattle.prof_bytes.specs.Fields.{Input, taken, number_from, uleb_from, sleb_from, bytes_from, text_from}
use Rattle.prof_bytes.specs.Leb.{leb_group, is_last, unsigned_of, signed_of, fits_unsigned, fits_signed, uleb_at, sleb_at}
use Rattle.prof_bytes.specs.Number.{number_at}
use Rattle.prof_bytes.specs.Reading.{At, left_of, moved, bytes_at, text_at}
use Rattle.prof_bytes.specs.Outcome.{◌>>=◌, GivesAt}

-- so many bytes at least were taken, unless there is a fault
abbrev pub Moves : {X F : Type 0} → ℕ → Input F → Result (X × Input F) F → Type 0
Moves count input (Ok r) = (r.1.at.whole ≡ input.at.whole) × (length (left_of r.1.at) + count ≤ length (left_of input.at))
Moves count input (Err fault) = Unit {0}

-- what is taken from so many bytes: at least `count` of them
abbrev Within : {X : Type 0} → ℕ → ℕ → Option (X × ℕ) → Type 0
Within count long None = Unit {0}
Within count long (Some r) = (count ≤ r.1) × (r.1 ≤ long)

pub left_moved : (at : At) (count : ℕ) → count ≤ length (left_of at) → length (left_of (moved count at)) + count ≡ length (left_of at)
left_moved at count le =
    let long = length-drop at.offset at.whole in
    let rest = length-drop (at.offset + count) at.whole in
    omega arith

moves_taken : {X F : Type 0} (count : ℕ) (input : Input F) (found : Option (X × ℕ)) → Within count (length (left_of input.at)) found → Moves count input (taken input found)
moves_taken count input None within = tt
moves_taken count input (Some r) within = (refl, let long = left_moved input.at r.1 within.1 in let more = within.0 in omega arith)

sized_within : {X : Type 0} (count : ℕ) (bytes : List ℕ) (x : X) → Within count (length bytes) (if nat_lt (length bytes) count then None else Some (x, count))
sized_within count bytes x =
    elim (cases_lt (length bytes) count) [
      | inl lt ↦ rw (lt-ltb (length bytes) count lt) tt
      | inr ge ↦ rw (le-ltb (length bytes) count ge) (omega arith, ge)
    ]

text_within : (bytes : List ℕ) → Within 1 (length bytes) (text_at bytes)
text_within bytes =
    let n = position_or_len (λ byte. byte == 0) bytes in
    elim (cases_lt n (length bytes)) [
      | inl lt ↦ rw (lt-ltb n (length bytes) lt) (omega arith, omega arith)
      | inr ge ↦ rw (le-ltb n (length bytes) ge) tt
    ]

-- a group of seven bits a byte has a last byte
group_within : {X : Type 0} (of : List ℕ → Option (X × ℕ)) (bytes : List ℕ) → ((group : List ℕ) → Within (length group) (length group) (of group))
    → Within 1 (length bytes) (option_and_then of (leb_group bytes))
group_within of bytes each =
    let n = position_or_len is_last bytes in
    elim (cases_lt n (length bytes)) [
      | inl lt ↦ rw (lt-ltb n (length bytes) lt) (widen (of (take (n + 1) bytes)) (length (take (n + 1) bytes)) (length bytes) (each (take (n + 1) bytes)) (let long = length-take-le (n + 1) bytes (omega arith) in omega arith) (let long = length-take-le (n + 1) bytes (omega arith) in omega arith))
      | inr ge ↦ rw (le-ltb n (length bytes) ge) tt
    ]
  where
    widen : {X : Type 0} (found : Option (X × ℕ)) (n long : ℕ) → Within n n found → 1 ≤ n → n ≤ long → Within 1 long found
    widen None n long within one le = tt
    widen (Some r) n long within one le = (let a = within.0 in omega arith, let b = within.1 in omega arith)

when : {X : Type 0} (b : Bool) (x : X) (n : ℕ) → Within n n (if b then Some (x, n) else None)
when true x n = (omega arith, omega arith)
when false x n = tt

uleb_within : (bytes : List ℕ) → Within 1 (length bytes) (uleb_at bytes)
uleb_within bytes = group_within unsigned_of bytes (λ group. when (fits_unsigned group) _ (length group))

sleb_within : (bytes : List ℕ) → Within 1 (length bytes) (sleb_at bytes)
sleb_within bytes = group_within signed_of bytes (λ group. when (fits_signed group) _ (length group))

pub number_moves : {F : Type 0} (count : ℕ) (input : Input F) → Moves count input (number_from count input)
number_moves count input = moves_taken count input (number_at count (left_of input.at)) (sized_within count (left_of input.at) _)

pub uleb_moves : {F : Type 0} (input : Input F) → Moves 1 input (uleb_from input)
uleb_moves input = moves_taken 1 input (uleb_at (left_of input.at)) (uleb_within (left_of input.at))

pub sleb_moves : {F : Type 0} (input : Input F) → Moves 1 input (sleb_from input)
sleb_moves input = moves_taken 1 input (sleb_at (left_of input.at)) (sleb_within (left_of input.at))

pub bytes_moves : {F : Type 0} (count : ℕ) (input : Input F) → Moves count input (bytes_from count input)
bytes_moves count input = moves_taken count input (bytes_at count (left_of input.at)) (sized_within count (left_of input.at) _)

pub text_moves : {F : Type 0} (input : Input F) → Moves 1 input (text_from input)
text_moves input = moves_taken 1 input (text_at (left_of input.at)) (text_within (left_of input.at))

-- two fields, one after the other
pub moves_then : {X Y F : Type 0} (j k : ℕ) (input : Input F) (first : Result (X × Input F) F) (next : X × Input F → Result (Y × Input F) F)
    → Moves j input first → ((r : X × Input F) → Moves k r.1 (next r)) → Moves (j + k) input (first >>= next)
moves_then j k input (Err fault) next one others = tt
moves_then {Y = Y} {F = F} j k input (Ok r) next one others = both (next r) (others r)
  where
    both : (last : Result (Y × Input F) F) → Moves k r.1 last → Moves (j + k) input last
    both (Err fault) two = tt
    both (Ok s) two = (two.0 ∙ one.0, let a = one.1 in let b = two.1 in omega arith)

-- fewer were taken too
pub moves_less : {X F : Type 0} (j k : ℕ) (input : Input F) (read : Result (X × Input F) F) → k ≤ j → Moves j input read → Moves k input read
moves_less j k input (Err fault) le moves = tt
moves_less j k input (Ok r) le moves = (moves.0, let a = moves.1 in omega arith)

pub uleb_passes : {F : Type 0} (input : Input F) → Moves 0 input (uleb_from input)
uleb_passes input = moves_less 1 0 input (uleb_from input) (omega arith) (uleb_moves input)

-- one of two
pub moves_if : {X F : Type 0} (count : ℕ) (input : Input F) (b : Bool) (one other : Result (X × Input F) F)
    → Moves count input one → Moves count input other → Moves count input (if b then one else other)
moves_if count input true one other a b = a
moves_if count input false one other a b = b

pub stays : {X F : Type 0} (input : Input F) (x : X) → Moves 0 input (Ok (x, input))
stays input x = (refl, omega arith)

-- a call that gives what is read so keeps its reader's bytes
pub keeps : {X Y F : Type 0} (count : ℕ) (view : X → Y) (result : Result X F) (old new : Input F) (read : Result (Y × Input F) F)
    → Moves count old read → GivesAt view result new read → IfOk result (λ _. new.at.whole ≡ old.at.whole)
keeps count view (Err fault) old new read moves gives = tt
keeps {Y = Y} {F = F} count view (Ok x) old new (Ok r) moves gives = let e : r.1 ≡ new = ap (λ (q : Result (Y × Input F) F). behind q) gives in ap (λ (i : Input F). i.at.whole) (sym e) ∙ moves.0
  where
    behind : Result (Y × Input F) F → Input F
    behind (Ok q) = q.1
    behind (Err fault) = new
keeps count view (Ok x) old new (Err fault) moves gives = absurd cc
