-- The occurrences of a content's frames, and how a chain of items narrows them.
use Rattle.std.specs.Prelude.{◌≡◌, ℕ, ◌&&◌, List, [], ◌∷◌, ◌++◌, length, map, filter, reverse, drop}
use Rattle.std.specs.Prelude.{slice_index_or, codes, Bool, true, false, if◌then◌else◌}
use Rattle.std.specs.List.{flat_map, range_with_len}
use Rattle.std.specs.List.Sorted.{IsSortedByKey}
use Rattle.tree_types.specs.declared.content.Content.{Content}
use Rattle.tree_types.specs.Database.{naming_in}
use Rattle.tree_types.specs.Naming.{Naming}
use Rattle.tree_types.specs.Paths.{Path, is_proc}
use Rattle.tree_types.specs.PathsOf.{paths_of, tree_paths}
use Rattle.view_tables.specs.declared.groups.item.ItemRef.{ItemRef}
use Rattle.view_tables.specs.declared.groups.item.ItemRef.TheVariants.{File, Procedure, SourceLine, Instruction}
use Rattle.view_tables.specs.declared.groups.item.RowRef.{RowRef}
use Rattle.view_tables.specs.declared.groups.occurrence.Occurrence.{Occurrence}
use Rattle.view_tables.specs.declared.groups.occurrence.Split.{Split}
use Rattle.view_tables.specs.declared.groups.occurrence.View.{View}
use Rattle.view_tables.specs.declared.groups.occurrence.View.TheVariants.{Callers, Flat}
use Rattle.view_tables.specs.Views.{Item, Sequences, ViewRow, item_order, same_item}
use Rattle.view_tables.specs.Views as views
use Rattle.view_tables.specs.Callers.{procs_up, tails}
use Rattle.view_tables.specs.Flat.{call_line, frame_at, frame_proc, frames_up}

-- ---- items and rows of the code

-- the item that the code's item is
abbrev pub item_seen : ItemRef → Item
item_seen (File name) = views.File name.now
item_seen (Procedure id) = views.Procedure id
item_seen (SourceLine line) = views.SourceLine line
item_seen (Instruction address) = views.Instruction address

-- and those of a list
abbrev pub items_seen : List ItemRef → List Item
items_seen items = map item_seen items

-- the row that the code's row is
abbrev pub row_seen : RowRef → ViewRow
row_seen r = record { inclusive = r.inclusive.0; item = item_seen r.item; exclusive = r.exclusive }

-- ---- what a view takes of a path

-- the scopes of a node's path, from its own up; none for what is no node's number
abbrev pub ups : Content → ℕ → Path
ups c number = reverse (slice_index_or (tree_paths c.nodes) number [])

-- the sequences of a path, given from its innermost scope up
abbrev pub view_sample : View → Naming → Path → Sequences
view_sample Callers naming scopes = tails (procs_up scopes)
view_sample Flat naming scopes = frames_up naming scopes

-- those of a node's path
abbrev pub sample_at : View → Content → ℕ → Sequences
sample_at view c number = view_sample view (naming_in c.names) (ups c number)

-- the first of a sample's sequences, and else no items
abbrev pub first_sequence : Sequences → List Item
first_sequence [] = []
first_sequence (items ∷ sample) = items

-- the items of the first scope's frame, without a given number of them
abbrev pub frame_items : View → Naming → Path → ℕ → List Item
frame_items Callers naming scopes level = procs_up scopes
frame_items Flat naming [] level = []
frame_items Flat naming (s ∷ outer) level =
    drop level (first_sequence (flat_map (λ line. frame_at naming line outer) (call_line s)))

-- the items of a node's frame
abbrev pub node_items : View → Content → ℕ → List Item
node_items view c number = frame_items view (naming_in c.names) (ups c number) 0

-- the items that an occurrence still has
abbrev pub items_left : View → Content → Occurrence → List Item
items_left view c p = frame_items view (naming_in c.names) (ups c p.node) p.level

-- whether a list has an element
abbrev pub is_some_list : {X : Type 0} → List X → Bool
is_some_list [] = false
is_some_list (x ∷ xs) = true

-- whether the first scope has a frame of its own: in the callers table a procedure, in the flat table a call or a
-- statement that ends a procedure's frame
abbrev pub has_frame : View → Path → Bool
has_frame view [] = false
has_frame Callers (s ∷ outer) = is_proc s
has_frame Flat (s ∷ outer) = is_some_list (call_line s) && is_some_list (frame_proc outer)

-- ---- occurrences with their items

-- a frame by its node's number, and items
abbrev pub Held : Type 0
Held = ℕ × List Item

-- an occurrence as its frame and its items
abbrev pub held : View → Content → Occurrence → Held
held view c p = (p.frame, items_left view c p)

-- what an occurrence is cut into: its first item, and itself without
abbrev pub cut_one : ℕ → List Item → List (Item × Held)
cut_one frame [] = []
cut_one frame (a ∷ items) = (a, (frame, items)) ∷ []

-- what all occurrences are cut into
abbrev pub cuts : List Held → List (Item × Held)
cuts hs = flat_map (λ h. cut_one h.0 h.1) hs

-- what the code's split is
abbrev pub cut_of : View → Content → Split → Item × Held
cut_of view c s = (item_seen s.item, held view c s.rest)

-- those with this first item, without it
abbrev pub of_item : Item → List (Item × Held) → List Held
of_item item cs = map (λ s. s.1) (filter (λ s. same_item item s.0) cs)

-- what a chain leaves of occurrences: those that begin with it, without it
abbrev pub narrowed : List Item → List Held → List Held
narrowed [] hs = hs
narrowed (a ∷ chain) hs = narrowed chain (of_item a (cuts hs))

-- ---- all occurrences of a content

-- the occurrence of a node's frame, if the node has one
abbrev pub occurrence_at : View → Content → ℕ → List Held
occurrence_at view c number = if has_frame view (ups c number) then (number, node_items view c number) ∷ [] else []

-- those of all nodes, in their order
abbrev pub all_occurrences : View → Content → List Held
all_occurrences view c = flat_map (occurrence_at view c) (range_with_len 0 (length c.nodes))

-- the samples of a content
abbrev pub content_samples : View → Content → List Sequences
content_samples view c = map (λ p. view_sample view (naming_in c.names) (reverse p.path)) (paths_of c)

-- the occurrences that a chain leaves
abbrev pub AreOccurrences : View → Content → List Item → List Occurrence → Type 0
AreOccurrences view c chain occurrences = map (held view c) occurrences ≡ narrowed chain (all_occurrences view c)

-- what they are cut into: those of each item are what the chain and that item leave, in their order
abbrev pub AreSplits : View → Content → List Item → List Split → Type 0
AreSplits view c chain splits = (item : Item)
    → of_item item (map (cut_of view c) splits) ≡ narrowed (chain ++ item ∷ []) (all_occurrences view c)

-- splits that ascend by their items
abbrev pub AreByItem : List Split → Type 0
AreByItem splits = IsSortedByKey (λ s. item_seen s.item) item_order splits

-- what comes before the labels below the first level
abbrev pub mark_of : View → List ℕ
mark_of Callers = codes "<- "
mark_of Flat = []
