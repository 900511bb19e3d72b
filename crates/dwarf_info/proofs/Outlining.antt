-- Entries that are outlined one after the other.
use Rattle.std.proofs.Common.{◌≡◌, ℕ, suc, ◌+◌, ◌<◌, ◌≤◌, ◌^◌, List, [], ◌∷◌, ◌++◌, length, map, take, get_or, Result, Ok, Err, sym, ap, ◌∙◌, subst, arith, length-append, append_assoc}
use Rattle.std.specs.Prelude.{AllPairs, filter}
use Rattle.std.specs.List.{enumerate_from, flat_map}
use Rattle.std.proofs.lemmas.List.{append-nil, map-append, length-map, take_more}
use Rattle.std.proofs.lemmas.List.Elements.{filter-append}
use Rattle.std.proofs.lemmas.List.Folds.{length-flat_map-take}
use Rattle.std.proofs.lemmas.Grind.{flat_map-append}
use Rattle.std.proofs.Math.ListN.{get_or-map}
use Rattle.dwarf_forms.specs.Runs.{before}
use Rattle.dwarf_info.specs.declared.entry.InfoEntry.{InfoEntry}
use Rattle.dwarf_info.specs.declared.entry.UnitContext.{UnitContext}
use Rattle.dwarf_info.specs.declared.fault.InfoFault.{InfoFault}
use Rattle.dwarf_info.specs.declared.outline.Outline.{Outline}
use Rattle.dwarf_info.specs.Subroutines.{Indexed, SubroutineEntry, is_item, subroutine_entry}
use Rattle.dwarf_info.specs.private.Indexed.{offsets_of}
use Rattle.dwarf_info.specs.private.Outlines.{items_from, AreOutlined}
use Rattle.dwarf_info.proofs.Bodies.{before_none}
use Rattle.dwarf_info.proofs.Indexed.{offsets_count}

-- ---- lists that follow one another

enumerate_append : (n : ℕ) (xs ys : List InfoEntry) → enumerate_from n (xs ++ ys) ≡ enumerate_from n xs ++ enumerate_from (n + length xs) ys
enumerate_append n [] ys = ap (λ k. enumerate_from k ys) (let e : n ≡ n + 0 = omega arith in e)
enumerate_append n (x ∷ xs) ys =
    ap (λ es. (n, x) ∷ es) (enumerate_append (n + 1) xs ys
    ∙ ap (λ k. enumerate_from (n + 1) xs ++ enumerate_from k ys) (let e : n + 1 + length xs ≡ n + suc (length xs) = omega arith in e))

items_append : (n : ℕ) (xs ys : List InfoEntry) → items_from n (xs ++ ys) ≡ items_from n xs ++ items_from (n + length xs) ys
items_append n xs ys =
    ap (λ es. map subroutine_entry (filter (λ (e : Indexed). is_item e.1) es)) (enumerate_append n xs ys)
    ∙ ap (map subroutine_entry) (filter-append (λ (e : Indexed). is_item e.1) (enumerate_from n xs) (enumerate_from (n + length xs) ys))
    ∙ map-append subroutine_entry (filter (λ (e : Indexed). is_item e.1) (enumerate_from n xs)) (filter (λ (e : Indexed). is_item e.1) (enumerate_from (n + length xs) ys))

pub none_outlined : (a : Outline) → AreOutlined a [] a
none_outlined a = record { depths = sym (append-nil a.depths.items); items = sym (append-nil a.subroutines.items) }

outlined_long : (a b : Outline) (xs : List InfoEntry) → AreOutlined a xs b → length b.depths.items ≡ length a.depths.items + length xs
outlined_long a b xs one =
    ap length one.depths ∙ length-append a.depths.items (map (λ e. e.depth) xs)
    ∙ ap (λ (n : ℕ). length a.depths.items + n) (length-map xs (λ (e : InfoEntry). e.depth))

then_outlined : (a b c : Outline) (xs ys : List InfoEntry) → AreOutlined a xs b → AreOutlined b ys c → AreOutlined a (xs ++ ys) c
then_outlined a b c xs ys one two = record {
  depths = two.depths ∙ ap (λ (ds : List ℕ). ds ++ map (λ e. e.depth) ys) one.depths
      ∙ append_assoc a.depths.items (map (λ e. e.depth) xs) (map (λ e. e.depth) ys)
      ∙ ap (λ (ds : List ℕ). a.depths.items ++ ds) (sym (map-append (λ (e : InfoEntry). e.depth) xs ys));
  items = two.items ∙ ap (λ (n : ℕ). b.subroutines.items ++ items_from n ys) (outlined_long a b xs one)
      ∙ ap (λ (is : List SubroutineEntry). is ++ items_from (length a.depths.items + length xs) ys) one.items
      ∙ append_assoc a.subroutines.items (items_from (length a.depths.items) xs) (items_from (length a.depths.items + length xs) ys)
      ∙ ap (λ (is : List SubroutineEntry). a.subroutines.items ++ is) (sym (items_append (length a.depths.items) xs ys));
}

-- ---- in a loop

-- the entries that were passed, before the others, were outlined
pub record ArePassed (rest total : Result (List InfoEntry) InfoFault) (old new : Outline) : Type 0 where
  pub entries : List InfoEntry
  pub read : before entries rest ≡ total
  pub are : AreOutlined old entries new

pub none_passed : (total : Result (List InfoEntry) InfoFault) (outline : Outline) → ArePassed total total outline outline
none_passed total outline = record { entries = []; read = before_none total; are = none_outlined outline }

pub one_passed : (rest next total : Result (List InfoEntry) InfoFault) (old new more : Outline) (entry : List InfoEntry) (p : ArePassed rest total old new)
    → before (p.entries ++ entry) next ≡ total → AreOutlined new entry more → ArePassed next total old more
one_passed rest next total old new more entry p read added =
    record { entries = p.entries ++ entry; read = read; are = then_outlined old new more p.entries entry p.are added }

ok_of : List InfoEntry → Result (List InfoEntry) InfoFault → List InfoEntry
ok_of d (Ok es) = es
ok_of d (Err fault) = d

front_few : (front es : List InfoEntry) (rest : Result (List InfoEntry) InfoFault) → before front rest ≡ Ok es → length front ≤ length es
unfolding ok_of
front_few front es (Err fault) same = absurd cc
front_few front es (Ok ys) same =
    let joined : front ++ ys ≡ es = ap (ok_of es) same in
    let long = ap length joined in
    let sum = length-append front ys in
    omega arith

pub next_few : (rest next total : Result (List InfoEntry) InfoFault) (old new : Outline) (entry all : List InfoEntry) (p : ArePassed rest total old new)
    → before (p.entries ++ entry) next ≡ total → total ≡ Ok all → length old.depths.items + length all < 2 ^ 31
    → length new.depths.items + length entry < 2 ^ 31
next_few rest next total old new entry all p read is few =
    let front = front_few (p.entries ++ entry) all next (read ∙ is) in
    let both = length-append p.entries entry in
    let long = outlined_long old new p.entries p.are in
    omega arith

pub all_passed : (rest total : Result (List InfoEntry) InfoFault) (old new : Outline) (all : List InfoEntry) (p : ArePassed rest total old new) → total ≡ Ok p.entries → total ≡ Ok all
    → AreOutlined old all new
unfolding ok_of
all_passed rest total old new all p done is =
    subst (λ (es : List InfoEntry). AreOutlined old es new) (ap (ok_of all) (sym done ∙ is)) p.are

-- ---- all units

-- the outline of these entries
pub record IsOutline (entries : List InfoEntry) (outline : Outline) : Type 0 where
  pub depths : outline.depths.items ≡ map (λ e. e.depth) entries
  pub items : outline.subroutines.items ≡ items_from 0 entries

outline_long : (entries : List InfoEntry) (outline : Outline) → IsOutline entries outline → length outline.depths.items ≡ length entries
outline_long entries outline is = ap length is.depths ∙ length-map entries (λ (e : InfoEntry). e.depth)

pub unit_outlined : (f : UnitContext → List InfoEntry) (contexts : List UnitContext) (k : ℕ) (d : UnitContext) (old new : Outline) → k < length contexts
    → IsOutline (flat_map f (take k contexts)) old → AreOutlined old (f (get_or contexts k d)) new → IsOutline (flat_map f (take (k + 1) contexts)) new
unit_outlined f contexts k d old new lt is more =
    let seen : List InfoEntry = flat_map f (take k contexts) in
    let found : List InfoEntry = f (get_or contexts k d) in
    let all : flat_map f (take (k + 1) contexts) ≡ seen ++ found =
    ap (flat_map f) (take_more contexts k d lt) ∙ flat_map-append f (take k contexts) (get_or contexts k d ∷ [])
    ∙ ap (λ (es : List InfoEntry). seen ++ es) (append-nil found) in
    let long : length old.depths.items ≡ 0 + length seen = (let l = outline_long seen old is in omega arith) in
    subst (λ (es : List InfoEntry). IsOutline es new) (sym all) (record {
      depths = more.depths ∙ ap (λ (ds : List ℕ). ds ++ map (λ e. e.depth) found) is.depths ∙ sym (map-append (λ (e : InfoEntry). e.depth) seen found);
      items = more.items ∙ ap (λ (n : ℕ). old.subroutines.items ++ items_from n found) long
          ∙ ap (λ (es : List SubroutineEntry). es ++ items_from (0 + length seen) found) is.items ∙ sym (items_append 0 seen found);
    })

pub unit_few : (f : UnitContext → List InfoEntry) (contexts : List UnitContext) (k : ℕ) (d : UnitContext) (old : Outline) (offsets : List ℕ) → k < length contexts
    → IsOutline (flat_map f (take k contexts)) old → offsets ≡ offsets_of (flat_map f contexts) → length offsets < 2 ^ 31
    → length old.depths.items + length (f (get_or contexts k d)) < 2 ^ 31
unit_few f contexts k d old offsets lt is are few =
    let long = outline_long (flat_map f (take k contexts)) old is in
    let within = length-flat_map-take f contexts k d lt in
    let same = ap length are ∙ offsets_count (flat_map f contexts) in
    omega arith

-- ---- the order of offsets

pub offsets_ascend : (entries : List InfoEntry) (offsets : List ℕ) → offsets ≡ offsets_of entries → AllPairs (λ a b. a < b) offsets → AllPairs (λ e f. e.offset < f.offset) entries
offsets_ascend entries offsets are up = λ i j d lt there.
    let long = ap length are ∙ offsets_count entries in
    let less = up i j d.offset lt (omega arith) in
    let one : get_or offsets i d.offset ≡ (get_or entries i d).offset = ap (λ (os : List ℕ). get_or os i d.offset) are ∙ get_or-map (λ (e : InfoEntry). e.offset) entries i d in
    let two : get_or offsets j d.offset ≡ (get_or entries j d).offset = ap (λ (os : List ℕ). get_or os j d.offset) are ∙ get_or-map (λ (e : InfoEntry). e.offset) entries j d in
    omega arith
