-- A declaration is the same, whichever table it is read in.
use Rattle.std.proofs.Common.{◌≡◌, ◌==◌, ℕ, zero, suc, Bool, true, false, cond, List, [], ◌∷◌, ◌++◌, length, drop, find, Option, Some, None, Result, Ok, Err, refl, sym, ap, ◌∙◌}
use Rattle.std.specs.Prelude.{slice_get, option_map, if◌then◌else◌, nat_le}
use Rattle.std.specs.Option.{option_or}
use Rattle.prof_bytes.specs.Fields.{Input, uleb_from, number_from}
use Rattle.prof_bytes.specs.Outcome.{◌>>=◌}
use Rattle.dwarf_forms.specs.declared.declaration.Abbrev.{Abbrev}
use Rattle.dwarf_forms.specs.declared.declaration.BadTable.{BadTable}
use Rattle.dwarf_forms.specs.Lists.{list_from, with_first}
use Rattle.dwarf_forms.specs.Abbreviations.{bad, attributes_from, declared_from, declaration_from, table_at, code_from, code_at, specs_at, offset_of_code}
use Rattle.dwarf_forms.specs.private.Passed.{coded}
use Rattle.dwarf_forms.proofs.Suffixes.{StandsAt, declaration_stands, input_from, suffix_at, within}

-- ---- the first declaration of a code

-- it is somewhere in the table
is_among : (code : ℕ) (d : Abbrev) (table : List Abbrev) → find (λ (e : Abbrev). e.code == code) table ≡ Some d → (index : ℕ) × (slice_get table index ≡ Some d)
is_among code d [] e = absurd cc
is_among code d (first ∷ others) e = by (first.code == code) e (λ there. is_among code d others there)
  where
    by : (here : Bool) → cond here (Some first) (find (λ (x : Abbrev). x.code == code) others) ≡ Some d
        → (find (λ (x : Abbrev). x.code == code) others ≡ Some d → (index : ℕ) × (slice_get others index ≡ Some d)) → (index : ℕ) × (slice_get (first ∷ others) index ≡ Some d)
    by true same again = (0, same)
    by false there again = let r = again there in (suc r.0, r.1)

abbrev or_first : Abbrev → Option Abbrev → Abbrev
or_first other None = other
or_first other (Some x) = x

-- what is from an index on begins with what is at the index
from_there : (table : List Abbrev) (index : ℕ) (d : Abbrev) → slice_get table index ≡ Some d → (others : List Abbrev) × (drop index table ≡ d ∷ others)
from_there [] zero d e = absurd cc
from_there [] (suc index) d e = absurd cc
from_there (first ∷ others) zero d e = (others, ap (λ (o : Option Abbrev). or_first first o ∷ others) e)
from_there (first ∷ others) (suc index) d e = from_there others index d e

-- ---- what is read at its offset

abbrev Read : Type 0
Read = Result (Option Abbrev × Input BadTable) BadTable

abbrev one_read : Abbrev → Input BadTable → Read
one_read d after = Ok (Some d, after)

abbrev Table : Type 0
Table = Result (List Abbrev × Input BadTable) BadTable

abbrev before_all : Abbrev → Table → Table
before_all x rest = rest >>= (λ (ds, last). Ok (x ∷ ds, last))

abbrev is_more : Table → Bool
is_more (Ok ([], end)) = false
is_more (Ok (d ∷ ds, end)) = true
is_more (Err fault) = false

abbrev first_or : Abbrev → Table → Abbrev
first_or other (Ok ([], end)) = other
first_or other (Ok (d ∷ ds, end)) = d
first_or other (Err fault) = other

-- a table begins with the declaration that is read first
first_read : (room : ℕ) (input end : Input BadTable) (d : Abbrev) (others : List Abbrev) → list_from declaration_from room input ≡ Ok (d ∷ others, end)
    → (after : Input BadTable) × (declaration_from input ≡ one_read d after)
unfolding list_from
first_read zero input end d others e = absurd cc
first_read (suc room) input end d others e = by (declaration_from input) e
  where
    one : (x : Abbrev) (after : Input BadTable) (rest : Table) → before_all x rest ≡ Ok (d ∷ others, end) → x ≡ d
    one x after (Err fault) same = absurd cc
    one x after (Ok r) same = ap (first_or x) same

    by : (read : Read) → (read >>= (λ (first, after). with_first first after (list_from declaration_from room))) ≡ Ok (d ∷ others, end) → (after : Input BadTable) × (read ≡ one_read d after)
    by (Err fault) same = absurd cc
    by (Ok (None, after)) same = let no : false ≡ true = ap is_more same in absurd cc
    by (Ok (Some x, after)) same = (after, ap (λ (y : Abbrev). one_read y after) (one x after (list_from declaration_from room after) same))

-- where a value is read after another one, the other one was read
ok_then : {X Y F : Type 0} (first : Result X F) (next : X → Result Y F) (y : Y) → (first >>= next) ≡ Ok y → (x : X) × (first ≡ Ok x) × (next x ≡ Ok y)
ok_then (Ok x) next y e = (x, refl, e)
ok_then (Err fault) next y e = absurd cc

abbrev is_one : Read → Bool
is_one (Ok (Some d, after)) = true
is_one (Ok (None, after)) = false
is_one (Err fault) = false

not_closed : (closes : Bool) (d : Abbrev) (after end : Input BadTable) (other : Read) → (if closes then Ok (None, after) else other) ≡ one_read d end → other ≡ one_read d end
not_closed true d after end other e = let no : false ≡ true = ap is_one e in absurd cc
not_closed false d after end other e = e

abbrev declared_or : Abbrev → Read → Abbrev
declared_or other (Ok (Some d, after)) = d
declared_or other (Ok (None, after)) = other
declared_or other (Err fault) = other

-- the code of a declaration, and its attributes
record IsHead (input : Input BadTable) (d : Abbrev) : Type 0 where
  coded : Input BadTable
  body : Input BadTable
  end : Input BadTable
  code : uleb_from input ≡ Ok (d.code, coded)
  head : code_from input ≡ Ok (d.code, body)
  attributes : attributes_from body ≡ Ok (d.specs, end)

abbrev numbered : ℕ → Input BadTable → Result (ℕ × Input BadTable) BadTable
numbered n input = Ok (n, input)

head_is : (input coded tagged body : Input BadTable) (code tag children : ℕ) → uleb_from input ≡ Ok (code, coded) → uleb_from coded ≡ Ok (tag, tagged)
    → number_from 1 tagged ≡ Ok (children, body) → code_from input ≡ numbered code body
unfolding code_from
head_is input coded tagged body code tag children a b c = rw (a, b, c) refl

head_of : (input after : Input BadTable) (d : Abbrev) → declaration_from input ≡ one_read d after → IsHead input d
unfolding declaration_from declared_from
head_of input after d e =
    let c = ok_then (uleb_from input) _ _ e in
    let t = ok_then (uleb_from c.0.1) _ _ (not_closed (c.0.0 == 0) d c.0.1 after (declared_from input.at.offset c.0.0 c.0.1) c.2) in
    let h = ok_then (number_from 1 t.0.1) _ _ t.2 in
    let s = ok_then (attributes_from h.0.1) _ _ h.2 in
    let code : c.0.0 ≡ d.code = ap (λ (r : Read). (declared_or d r).code) s.2 in
    let specs : s.0.0 ≡ d.specs = ap (λ (r : Read). (declared_or d r).specs) s.2 in
    record {
      coded = c.0.1;
      body = h.0.1;
      end = s.0.1;
      code = c.1 ∙ ap (λ (n : ℕ). numbered n c.0.1) code;
      head = head_is input c.0.1 t.0.1 h.0.1 c.0.0 t.0.0 h.0.0 c.1 t.1 h.1 ∙ (ap (λ (n : ℕ). numbered n h.0.1) code);
      attributes = s.1 ∙ ap (λ xs. Ok (xs, s.0.1)) specs;
    }

-- ---- in the section

in_section : (section : List ℕ) (offset : ℕ) (table : List Abbrev) → table_at section offset ≡ Ok table → nat_le offset (length section) ≡ true
in_section section offset table e = by (nat_le offset (length section)) refl
  where
    by : (b : Bool) → nat_le offset (length section) ≡ b → nat_le offset (length section) ≡ true
    by true le = le
    by false gt = let no : ◌≡◌ {A = Result (List Abbrev) BadTable} (Err bad) (Ok table) = sym (rw gt refl) ∙ e in absurd cc

code_is : (section : List ℕ) (offset code : ℕ) (after : Input BadTable) → nat_le offset (length section) ≡ true → uleb_from (input_from section offset) ≡ numbered code after
    → code_at section offset ≡ Ok code
code_is section offset code after le e = rw (le, e) refl

specs_are : (section : List ℕ) (offset code : ℕ) (after : Input BadTable) → nat_le offset (length section) ≡ true → code_from (input_from section offset) ≡ numbered code after
    → specs_at section offset ≡ Ok after
specs_are section offset code after le e = rw (le, e) refl

-- what is at an offset of the section is this declaration
pub record IsDeclared (section : List ℕ) (d : Abbrev) : Type 0 where
  pub code : code_at section d.offset ≡ Ok d.code
  pub body : Input BadTable
  pub end : Input BadTable
  pub specs : specs_at section d.offset ≡ Ok body
  pub attributes : attributes_from body ≡ Ok (d.specs, end)

pub is_declared : (section : List ℕ) (start code : ℕ) (table : List Abbrev) (d : Abbrev) → table_at section start ≡ Ok table → find (λ (e : Abbrev). e.code == code) table ≡ Some d → IsDeclared section d
is_declared section start code table d read found =
    let i = is_among code d table found in
    let rest = from_there table i.0 d i.1 in
    let stands : option_map (λ (x : Abbrev). x.offset) (slice_get table i.0) ≡ Some d.offset = ap (option_map (λ (x : Abbrev). x.offset)) i.1 in
    let suffix : table_at section d.offset ≡ Ok (d ∷ rest.0) = suffix_at section start table i.0 d.offset read stands ∙ ap (λ (xs : List Abbrev). Ok xs) rest.1 in
    let w = within section d.offset (d ∷ rest.0) suffix in
    let r = first_read _ (input_from section d.offset) w.0 d rest.0 w.1 in
    let h = head_of (input_from section d.offset) r.0 d r.1 in
    let le = in_section section d.offset (d ∷ rest.0) suffix in
    record {
      code = code_is section d.offset d.code h.coded le h.code;
      body = h.body;
      end = h.end;
      specs = specs_are section d.offset d.code h.body le h.head;
      attributes = h.attributes;
    }

-- ---- the first declaration of a code, one declaration after the other

pub offset_more : (code : ℕ) (front : List Abbrev) (d : Abbrev)
    → offset_of_code code (front ++ d ∷ []) ≡ option_or (offset_of_code code front) (if d.code == code then Some d.offset else None)
offset_more code [] d = one (d.code == code)
  where
    one : (b : Bool) → option_map (λ (e : Abbrev). e.offset) (cond b (Some d) None) ≡ (if b then Some d.offset else None)
    one true = refl
    one false = refl
offset_more code (x ∷ xs) d = by (x.code == code) (offset_more code xs d)
  where
    by : (b : Bool) → offset_of_code code (xs ++ d ∷ []) ≡ option_or (offset_of_code code xs) (if d.code == code then Some d.offset else None)
        → option_map (λ (e : Abbrev). e.offset) (cond b (Some x) (find (λ (e : Abbrev). e.code == code) (xs ++ d ∷ [])))
        ≡ option_or (option_map (λ (e : Abbrev). e.offset) (cond b (Some x) (find (λ (e : Abbrev). e.code == code) xs))) (if d.code == code then Some d.offset else None)
    by true more = refl
    by false more = more

abbrev code_or : ℕ → Result (Option ℕ × Input BadTable) BadTable → ℕ
code_or other (Ok (Some code, after)) = code
code_or other (Ok (None, after)) = other
code_or other (Err fault) = other

abbrev after_or : Input BadTable → Result (Option ℕ × Input BadTable) BadTable → Input BadTable
after_or other (Ok r) = r.1
after_or other (Err fault) = other

abbrev is_coded : Result (Option ℕ × Input BadTable) BadTable → Bool
is_coded (Ok (Some code, after)) = true
is_coded (Ok (None, after)) = false
is_coded (Err fault) = false

abbrev end_read : Input BadTable → Read
end_read after = Ok (None, after)

pub coded_none : (read : Read) (after : Input BadTable) → coded read ≡ Ok (None, after) → read ≡ end_read after
coded_none (Err fault) after e = absurd cc
coded_none (Ok (None, end)) after e = ap end_read (ap (after_or after) e)
coded_none (Ok (Some d, end)) after e = let no : true ≡ false = ap is_coded e in absurd cc

pub coded_fault : (read : Read) (fault : BadTable) → coded read ≡ Err fault → read ≡ Err fault
coded_fault (Err other) fault e = cc
coded_fault (Ok r) fault e = absurd cc

-- a declaration of which the code is known
pub record IsCoded (input after : Input BadTable) (code : ℕ) : Type 0 where
  pub declared : Abbrev
  pub read : declaration_from input ≡ one_read declared after
  pub code_is : declared.code ≡ code
  pub offset_is : declared.offset ≡ input.at.offset

pub coded_some : (input after : Input BadTable) (code : ℕ) → coded (declaration_from input) ≡ Ok (Some code, after) → IsCoded input after code
coded_some input after code e = by (declaration_from input) refl e (declaration_stands input)
  where
    by : (read : Read) → declaration_from input ≡ read → coded read ≡ Ok (Some code, after) → StandsAt input.at.offset read → IsCoded input after code
    by (Err fault) is same stands = absurd cc
    by (Ok (None, end)) is same stands = let no : false ≡ true = ap is_coded same in absurd cc
    by (Ok (Some d, end)) is same stands = record {
      declared = d;
      read = is ∙ ap (one_read d) (ap (after_or after) same);
      code_is = ap (code_or code) same;
      offset_is = stands;
    }
