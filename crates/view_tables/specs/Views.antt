-- Views that group the samples of a profile by what their call paths hold, as the bottom-up (callers) view and the flat
-- view of HPCToolkit's manual do. Each sample gives sequences of items, and a row stands for a chain of items: it
-- counts the samples that have a sequence which begins with the chain.
use Rattle.std.specs.Prelude.{ℕ, zero, suc, ◌*◌, ◌==◌, ◌&&◌, not, List, [], ◌∷◌, ◌++◌, length, map, filter, take}
use Rattle.std.specs.Prelude.{count_by, codes, decimal, Bool, true, false, if◌then◌else◌}
use Rattle.std.specs.List.{flat_map, list_any}
use Rattle.std.specs.Ordering.{is_eq, nat_cmp, ordering_then}
use Rattle.std.specs.declared.cmp.Ordering.{Ordering}
use Rattle.std.specs.Cmp.Lexicographic.{slice_cmp}
use Rattle.scope_types.specs.declared.scope.ProcId.{ProcId}
use Rattle.scope_types.specs.Words.{proc_words}
use Rattle.tree_types.specs.Ascending.{ascending}
use Rattle.tree_types.specs.Naming.{Naming}
use Rattle.prof_bytes.specs.Printing.{address_text, printed}
use Rattle.tree_types.specs.TopDown.{percent, table_row}

-- ---- items

-- a file by its name, a procedure, a line of source text, or an instruction by its address
pub data Item : Type 0 where
  File : List ℕ → Item
  Procedure : ProcId → Item
  SourceLine : ℕ → Item
  Instruction : ℕ → Item

-- an item as a list of numbers, without loss: first which variant it is, then its fields
abbrev pub item_words : Item → List ℕ
item_words (File name) = 0 ∷ name
item_words (Procedure id) = 1 ∷ proc_words id
item_words (SourceLine line) = 2 ∷ line ∷ []
item_words (Instruction address) = 3 ∷ address ∷ []

-- files by the bytes of their names, procedures in their order, lines by their numbers before addresses
abbrev pub item_order : Item → Item → Ordering
item_order a b = slice_cmp nat_cmp (item_words a) (item_words b)

-- items that tie in their order, and so are one
abbrev pub same_item : Item → Item → Bool
same_item a b = is_eq (item_order a b)

-- ---- samples

-- the sequences of items that a sample gives, one for each of its frames, the innermost first
abbrev pub Sequences : Type 0
Sequences = List (List Item)

-- whether the chain is at the front of the items
abbrev pub begins_with : List Item → List Item → Bool
begins_with [] items = true
begins_with (a ∷ chain) [] = false
begins_with (a ∷ chain) (b ∷ items) = same_item a b && begins_with chain items

-- whether a sequence of the sample begins with the chain
abbrev pub holds_chain : List Item → Sequences → Bool
holds_chain chain sample = list_any (begins_with chain) sample

-- whether the sequence of its innermost frame begins with the chain
abbrev pub ends : List Item → Sequences → Bool
ends chain sample = list_any (begins_with chain) (take 1 sample)

-- ---- rows

-- a row's values in retired instructions, and its item
pub record ViewRow : Type 0 where
  pub inclusive : ℕ
  pub item : Item
  pub exclusive : ℕ

-- the row of the chain and one item more, by the period times the numbers of samples; each counts once
abbrev pub row_at : ℕ → List Sequences → List Item → Item → ViewRow
row_at period samples chain item = record {
  inclusive = period * count_by (holds_chain (chain ++ item ∷ [])) samples;
  item = item;
  exclusive = period * count_by (ends (chain ++ item ∷ [])) samples;
}

-- the larger inclusive value first, then by the items
abbrev pub row_order : ViewRow → ViewRow → Ordering
row_order a b = ordering_then (nat_cmp b.inclusive a.inclusive)
    (ordering_then (item_order a.item b.item) (nat_cmp a.exclusive b.exclusive))

-- all items of the samples' sequences
abbrev pub all_items : List Sequences → List Item
all_items samples = flat_map (λ sample. flat_map (λ items. items) sample) samples

-- the rows right under that of the chain: those whose inclusive value is not 0, in order
unfoldable pub rows_under : ℕ → List Sequences → List Item → List ViewRow
rows_under period samples chain = ascending row_order
    (filter (λ r. not (r.inclusive == 0)) (map (row_at period samples chain) (all_items samples)))

-- ---- text

-- how an item is called
abbrev pub item_label : Naming → Item → List ℕ
item_label naming (File name) = printed name
item_label naming (Procedure id) = printed (naming.proc_name id)
item_label naming (SourceLine line) = codes "line " ++ decimal line
item_label naming (Instruction address) = address_text address

-- what comes before the label, at the first level nothing
abbrev pub mark_at : List ℕ → ℕ → List ℕ
mark_at mark level = if level == 0 then [] else mark

-- a row as text: its inclusive value, its share of the total, its exclusive value, its level, its label
abbrev pub view_row : Naming → List ℕ → ℕ → ℕ → ViewRow → List ℕ
view_row naming mark total level r = table_row (decimal r.inclusive) (percent r.inclusive total)
    (decimal r.exclusive) level (mark_at mark level ++ item_label naming r.item)

-- the rows under that of the chain, a given number of levels of them, each row under that of its chain without the last
unfoldable pub view_rows : ℕ → Naming → List ℕ → List Sequences → ℕ → List Item → List ℕ
view_rows period naming mark samples zero chain = []
view_rows period naming mark samples (suc levels) chain =
    flat_map (λ r. view_row naming mark (period * length samples) (length chain) r
    ++ view_rows period naming mark samples levels (chain ++ r.item ∷ [])) (rows_under period samples chain)

-- the row of the heads
abbrev pub view_header : List ℕ
view_header = table_row (codes "inclusive") (codes "%") (codes "exclusive") 0 (codes "scope")

-- the heads, and the rows of a given number of levels
abbrev pub view_table : ℕ → Naming → List ℕ → List Sequences → ℕ → List ℕ
view_table period naming mark samples levels = view_header ++ view_rows period naming mark samples levels []
