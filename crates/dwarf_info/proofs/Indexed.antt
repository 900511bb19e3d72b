-- The entries of the units that were read: their offsets, and the index of each unit's first.
use Rattle.std.proofs.Common.{◌≡◌, inl, inr, ℕ, zero, suc, ◌+◌, ◌-◌, ◌<◌, ◌≤◌, ◌==◌, Bool, true, false, cond, ltb, List, [], ◌∷◌, ◌++◌, length, get_or, Option, Some, None, Result, Ok, Err, refl, sym, ap, ◌∙◌, subst, arith, length-append, length-drop, take, drop}
use Rattle.std.specs.Prelude.{slice_get, position, if◌then◌else◌, IfOk, IfSome, MatchOption, option_map, option_to_list, not}
use Rattle.std.specs.List.{flat_map, position_or_len}
use Rattle.std.specs.List.Sorted.{IsNonDecreasingBy}
use Rattle.std.proofs.lemmas.Bool.{cases_lt}
use Rattle.std.proofs.lemmas.List.{append-nil, get_or_append_left}
use Rattle.std.proofs.lemmas.Grind.{flat_map-append}
use Rattle.std.proofs.Math.Seq.{get_or-append_seam}
use Rattle.prof_bytes.specs.Fields.{Input, uleb_from}
use Rattle.prof_bytes.specs.Outcome.{◌>>=◌}
use Rattle.dwarf_forms.specs.declared.declaration.Abbrev.{Abbrev}
use Rattle.dwarf_forms.specs.Runs.{RunStep, is_end, before, run_from}
use Rattle.dwarf_info.specs.declared.entry.UnitContext.{UnitContext}
use Rattle.dwarf_info.specs.declared.entry.InfoEntry.{InfoEntry}
use Rattle.dwarf_info.specs.declared.fault.InfoFault.{InfoFault}
use Rattle.dwarf_info.specs.declared.fault.InfoFault.TheVariants.{BadUnit, UnknownForm}
use Rattle.dwarf_info.specs.Sections.{Sections}
use Rattle.dwarf_info.specs.Values.{passed_from, declaration_of}
use Rattle.dwarf_info.specs.Entries.{declared_entry, entry_from, entries_from}
use Rattle.dwarf_info.specs.Units.{declared_in, unit_body, entries_in, or_none}
use Rattle.dwarf_info.specs.Queries.{index_at}
use Rattle.dwarf_info.specs.private.Starts.{IsCountUpTo}
use Rattle.dwarf_info.specs.private.Indexed.{offsets_of, IsRead, AreMarked, AreFirsts, AreIndexed}
use Rattle.dwarf_info.proofs.SetFlags.{all_pushed}

-- ---- lists of entries

pub offsets_append : (xs ys : List InfoEntry) → offsets_of (xs ++ ys) ≡ offsets_of xs ++ offsets_of ys
offsets_append [] ys = refl
offsets_append (x ∷ xs) ys = ap (λ os. x.offset ∷ os) (offsets_append xs ys)

pub offsets_count : (xs : List InfoEntry) → length (offsets_of xs) ≡ length xs
offsets_count [] = refl
offsets_count (x ∷ xs) = ap suc (offsets_count xs)

pub offset_at : (xs : List InfoEntry) (i : ℕ) → slice_get (offsets_of xs) i ≡ option_map (λ e. e.offset) (slice_get xs i)
offset_at [] i = refl
offset_at (x ∷ xs) zero = refl
offset_at (x ∷ xs) (suc i) = offset_at xs i

first_index : ℕ → ℕ → Option ℕ
first_index n most = cond (ltb n most) (Some n) None

-- the entry at an offset, by the offsets
pub same_index : (xs : List InfoEntry) (offset : ℕ) → position (λ o. o == offset) (offsets_of xs) ≡ index_at xs offset
unfolding first_index
same_index xs offset =
    ap (first_index (position_or_len (λ o. o == offset) (offsets_of xs))) (offsets_count xs)
    ∙ ap (λ n. first_index n (length xs)) (same xs)
  where
    same : (es : List InfoEntry) → position_or_len (λ o. o == offset) (offsets_of es) ≡ position_or_len (λ e. e.offset == offset) es
    same [] = refl
    same (e ∷ es) = ap (λ n. cond (not (e.offset == offset)) (1 + n) 0) (same es)

-- ---- the unit of an entry

abbrev OfUnit : ℕ → List InfoEntry → Type 0
OfUnit index es = (i : ℕ) (e : InfoEntry) → slice_get es i ≡ Some e → e.«unit» ≡ index

both_of : (index : ℕ) (xs ys : List InfoEntry) → OfUnit index xs → OfUnit index ys → OfUnit index (xs ++ ys)
both_of index [] ys one other i e at = other i e at
both_of index (x ∷ xs) ys one other zero e at = one 0 e at
both_of index (x ∷ xs) ys one other (suc i) e at = both_of index xs ys (λ j. one (suc j)) other i e at

abbrev StepOf : ℕ → RunStep ℕ InfoEntry InfoFault → Type 0
StepOf index (Ok t) = OfUnit index t.0
StepOf index (Err fault) = Unit {0}

none_of : (index : ℕ) → OfUnit index []
none_of index i e at = let no : ◌≡◌ {A = Option InfoEntry} None (Some e) = at in absurd cc

declared_of : (index depth offset : ℕ) (found : Option Abbrev) (after : Input InfoFault) → StepOf index (declared_entry index depth offset found after)
declared_of index depth offset None after = tt
declared_of index depth offset (Some d) after = passed (passed_from (UnknownForm offset) d.specs after)
  where
    made : InfoEntry
    made = record { offset = offset; depth = depth; tag = d.tag; «unit» = index }

    one : OfUnit index (made ∷ [])
    one zero e at = ap (λ (o : Option InfoEntry). unit_or o) (sym at)
      where
        unit_or : Option InfoEntry → ℕ
        unit_or (Some x) = x.«unit»
        unit_or None = index
    one (suc i) e at = none_of index i e at

    passed : (read : Result (Unit {0} × Input InfoFault) InfoFault)
        → StepOf index (read >>= (λ (passed, behind). Ok (record { offset = offset; depth = depth; tag = d.tag; «unit» = index } ∷ [], (if d.children then depth + 1 else depth), behind)))
    passed (Err fault) = tt
    passed (Ok r) = one

entry_of : (declared : List Abbrev) (index depth : ℕ) (input : Input InfoFault) → StepOf index (entry_from declared index depth input)
unfolding entry_from
entry_of declared index depth input = coded (uleb_from (record input { missing = BadUnit input.at.offset }))
  where
    one_of : (null : Bool) (after : Input InfoFault) (other : RunStep ℕ InfoEntry InfoFault) → StepOf index other → StepOf index (if null then Ok ([], depth - 1, after) else other)
    one_of true after other of = none_of index
    one_of false after other of = of

    coded : (read : Result (ℕ × Input InfoFault) InfoFault)
        → StepOf index (read >>= (λ (code, after). if code == 0 then Ok ([], depth - 1, after) else declared_entry index depth input.at.offset (declaration_of declared code) after))
    coded (Err fault) = tt
    coded (Ok r) = one_of (r.0 == 0) r.1 (declared_entry index depth input.at.offset (declaration_of declared r.0) r.1) (declared_of index depth input.at.offset (declaration_of declared r.0) r.1)

run_of : (declared : List Abbrev) (index room depth : ℕ) (input : Input InfoFault) → IfOk (run_from (entry_from declared index) room depth input) (OfUnit index)
unfolding run_from
run_of declared index zero depth input = none_of index
run_of declared index (suc room) depth input =
    one (is_end input) (entry_from declared index depth input) (entry_of declared index depth input) (λ state after. run_of declared index room state after)
  where
    joined : (front : List InfoEntry) (rest : Result (List InfoEntry) InfoFault) → OfUnit index front → IfOk rest (OfUnit index) → IfOk (before front rest) (OfUnit index)
    joined front (Err fault) a b = tt
    joined front (Ok es) a b = both_of index front es a b

    one : (end : Bool) (read : RunStep ℕ InfoEntry InfoFault) → StepOf index read → ((state : ℕ) (after : Input InfoFault) → IfOk (run_from (entry_from declared index) room state after) (OfUnit index))
        → IfOk (if end then Ok [] else read >>= (λ t. before t.0 (run_from (entry_from declared index) room t.1 t.2))) (OfUnit index)
    one true read of again = none_of index
    one false (Err fault) of again = tt
    one false (Ok t) of again = joined t.0 (run_from (entry_from declared index) room t.1 t.2) of (again t.1 t.2)

unit_of_each : (sections : Sections) (context : UnitContext) (read : IsRead sections context) → OfUnit context.index read.entries
unit_of_each sections context read =
    listed (entries_from (declared_in sections context) context.index (unit_body sections context.header)) read.read
    (run_of (declared_in sections context) context.index _ 0 (unit_body sections context.header))
  where
    listed : (all : Result (List InfoEntry) InfoFault) → all ≡ Ok read.entries → IfOk all (OfUnit context.index) → OfUnit context.index read.entries
    listed all is of = subst (λ (r : Result (List InfoEntry) InfoFault). IfOk r (OfUnit context.index)) is of

pub entries_are : (sections : Sections) (context : UnitContext) (read : IsRead sections context) → entries_in sections context ≡ read.entries
entries_are sections context read = ap (λ (r : Result (List InfoEntry) InfoFault). or_none r) read.read

-- ---- one unit more

-- a number is among others, or it is the last one
at_most : (xs : List ℕ) (last most i d : ℕ) → ((k d : ℕ) → k < length xs → get_or xs k d ≤ most) → last ≤ most → i < length (xs ++ last ∷ []) → get_or (xs ++ last ∷ []) i d ≤ most
at_most [] last most zero d all le lt = le
at_most [] last most (suc i) d all le lt = absurd (omega arith)
at_most (x ∷ xs) last most zero d all le lt = all 0 d (omega arith)
at_most (x ∷ xs) last most (suc i) d all le lt = at_most xs last most i d (λ k e l. all (suc k) e (omega arith)) le (omega arith)

firsts_rise : (firsts : List ℕ) (next : ℕ) → IsNonDecreasingBy (λ n. n) firsts → ((k d : ℕ) → k < length firsts → get_or firsts k d ≤ next) → IsNonDecreasingBy (λ n. n) (firsts ++ next ∷ [])
firsts_rise firsts next rise within i j d le lt =
    let long = length-append firsts (next ∷ []) in
    elim (cases_lt j (length firsts)) [
      | inl less ↦
          let a : get_or (firsts ++ next ∷ []) i d ≡ get_or firsts i d = get_or_append_left firsts (next ∷ []) d i (omega arith) in
          let b : get_or (firsts ++ next ∷ []) j d ≡ get_or firsts j d = get_or_append_left firsts (next ∷ []) d j less in
          let r = rise i j d le less in omega arith
      | inr past ↦
          let same : j ≡ length firsts = omega arith in
          let last : get_or (firsts ++ next ∷ []) j d ≡ next = ap (λ k. get_or (firsts ++ next ∷ []) k d) same ∙ get_or-append_seam firsts next [] d in
          let m = at_most firsts next next i d within (omega arith) (omega arith) in omega arith
    ]

old_split : (i count next : ℕ) (firsts : List ℕ) → i < next → IsCountUpTo i firsts count → IsCountUpTo i (firsts ++ next ∷ []) count
old_split i count next firsts lt split =
    let long = length-append firsts (next ∷ []) in
    record {
      within = let w = split.within in omega arith;
      below = λ k d less. (let w = split.within in let a : get_or (firsts ++ next ∷ []) k d ≡ get_or firsts k d = get_or_append_left firsts (next ∷ []) d k (omega arith) in let b = split.below k d less in omega arith);
      above = λ k d from within. elim (cases_lt k (length firsts)) [
        | inl less ↦ (let a : get_or (firsts ++ next ∷ []) k d ≡ get_or firsts k d = get_or_append_left firsts (next ∷ []) d k less in let b = split.above k d from less in omega arith)
        | inr past ↦ (let same : k ≡ length firsts = omega arith in
            let last : get_or (firsts ++ next ∷ []) k d ≡ next = ap (λ k. get_or (firsts ++ next ∷ []) k d) same ∙ get_or-append_seam firsts next [] d in omega arith)
      ];
    }

new_split : (i next : ℕ) (firsts : List ℕ) → next ≤ i → ((k d : ℕ) → k < length firsts → get_or firsts k d ≤ next) → IsCountUpTo i (firsts ++ next ∷ []) (length firsts + 1)
new_split i next firsts le within =
    let long = length-append firsts (next ∷ []) in
    record {
      within = omega arith;
      below = λ k d less. (let m = at_most firsts next next k d within (omega arith) (omega arith) in omega arith);
      above = λ k d from lt. absurd (omega arith);
    }

-- an entry is among those of before, or of the new ones
behind : (xs ys : List InfoEntry) (i : ℕ) (e : InfoEntry) → length xs ≤ i → slice_get (xs ++ ys) i ≡ Some e → slice_get ys (i - length xs) ≡ Some e
behind [] ys i e le at = ap (slice_get ys) (let z : i - 0 ≡ i = omega arith in z) ∙ at
behind (x ∷ xs) ys zero e le at = absurd (omega arith)
behind (x ∷ xs) ys (suc i) e le at = ap (slice_get ys) (let z : suc i - length (x ∷ xs) ≡ i - length xs = omega arith in z) ∙ behind xs ys i e (omega arith) at

before_get : (xs ys : List InfoEntry) (i : ℕ) → i < length xs → slice_get xs i ≡ slice_get (xs ++ ys) i
before_get [] ys i lt = absurd (omega arith)
before_get (x ∷ xs) ys zero lt = refl
before_get (x ∷ xs) ys (suc i) lt = before_get xs ys i (omega arith)

firsts_more : (known more : List InfoEntry) (firsts : List ℕ) → AreFirsts known firsts → OfUnit (length firsts) more → AreFirsts (known ++ more) (firsts ++ length known ∷ [])
firsts_more known more firsts are of = record {
  rise = firsts_rise firsts (length known) are.rise are.within;
  within = λ k d lt. (let m = at_most firsts (length known) (length known) k d are.within (omega arith) lt in let l = length-append known more in omega arith);
  units = λ i e at. elim (cases_lt i (length known)) [
    | inl less ↦ old_split i (e.«unit» + 1) (length known) firsts less (are.units i e (before_get known more i less ∙ at))
    | inr past ↦ subst (λ (n : ℕ). IsCountUpTo i (firsts ++ length known ∷ []) (n + 1)) (sym (of (i - length known) e (behind known more i e past at))) (new_split i (length known) firsts past are.within)
  ];
}

pub indexed_more : (sections : Sections) (units : List UnitContext) (offsets new firsts : List ℕ) (context : UnitContext) (first : ℕ) → AreIndexed sections units offsets firsts → AreMarked sections offsets new context
    → context.index ≡ length units → first ≡ length offsets → AreIndexed sections (units ++ context ∷ []) new (firsts ++ first ∷ [])
indexed_more sections units offsets new firsts context first old marked number first_is =
    let known : List InfoEntry = flat_map (entries_in sections) units in
    let more : List InfoEntry = marked.read.entries in
    let all : flat_map (entries_in sections) (units ++ context ∷ []) ≡ known ++ more =
    flat_map-append (entries_in sections) units (context ∷ []) ∙ ap (λ (es : List InfoEntry). known ++ es) (append-nil (entries_in sections context) ∙ entries_are sections context marked.read) in
    let count : first ≡ length known = first_is ∙ ap length old.are ∙ offsets_count known in
    let of : OfUnit (length firsts) more = subst (λ (n : ℕ). OfUnit n more) (number ∙ sym old.each) (unit_of_each sections context marked.read) in
    record {
      are = marked.added ∙ ap (λ (os : List ℕ). os ++ offsets_of more) old.are ∙ sym (offsets_append known more) ∙ ap offsets_of (sym all);
      begin = rw (all, count) (firsts_more known more firsts old.begin of);
      each = length-append firsts (first ∷ []) ∙ ap (λ (n : ℕ). n + 1) old.each ∙ sym (length-append units (context ∷ []));
      read = all_pushed (λ _ b. IsRead sections b) units context old.read marked.read;
    }

pub option_few : {X : Type 0} (o : Option X) → length (option_to_list o) ≤ 1
option_few None = omega arith
option_few (Some x) = omega arith

-- a unit more, unless it was passed over
pub indexed_next : (sections : Sections) (units units' : List UnitContext) (offsets new firsts firsts' : List ℕ) (found : Option UnitContext) (first : ℕ) → AreIndexed sections units offsets firsts
    → MatchOption found (new ≡ offsets) (AreMarked sections offsets new) → IfSome found (λ u. u.index ≡ length units) → first ≡ length offsets
    → units' ≡ units ++ option_to_list found → firsts' ≡ firsts ++ option_to_list (option_map (λ _. first) found) → AreIndexed sections units' new firsts'
indexed_next sections units units' offsets new firsts firsts' None first old marked number first_is units_are firsts_are = rw (units_are, firsts_are, append-nil units, append-nil firsts, marked) old
indexed_next sections units units' offsets new firsts firsts' (Some u) first old marked number first_is units_are firsts_are =
    rw (units_are, firsts_are) (indexed_more sections units offsets new firsts u first old marked number first_is)

pub some_number : (found : Option UnitContext) (index number : ℕ) → index ≡ number → IfSome found (λ u. u.index ≡ index) → IfSome found (λ u. u.index ≡ number)
some_number None index number same is = tt
some_number (Some u) index number same is = is ∙ same

-- a unit whose first entry would lie after its bytes has none
pub none_past : (sections : Sections) (context : UnitContext) (bytes : List ℕ) → bytes ≡ take context.header.end sections.info → length bytes < context.header.first_entry → entries_in sections context ≡ []
unfolding run_from
none_past sections context bytes front past =
    let long = ap length front in
    let left : length (drop context.header.first_entry (take context.header.end sections.info)) ≡ 0 = (let l = length-drop context.header.first_entry (take context.header.end sections.info) in omega arith) in
    rw left refl
