-- The sixth and the seventh rule of a database in this project's format (docs/FORMATS.md, Database): the two planes.
use Rattle.std.specs.Prelude.{ℕ, ◌+◌, ◌-◌, ◌/◌, ◌%◌, ◌==◌, ◌&&◌, ◌||◌, not, Bool, nat_le, nat_lt, List, [], ◌∷◌}
use Rattle.std.specs.Prelude.{length, map, filter, take, sum_by, slice_index_or, Ok, Err, if◌then◌else◌}
use Rattle.std.specs.List.{flat_map}
use Rattle.prof_bytes.specs.Number.{number_in}
use Rattle.prof_bytes.specs.Reading.{At, left_of, moved}
use Rattle.scope_types.specs.Limits.{most_samples}
use Rattle.tree_types.specs.Tree.{CountedTree, node_at}
use Rattle.tree_types.specs.declared.content.ContextEntry.{ContextEntry}
use Rattle.tree_types.specs.declared.content.Node.{Node}
use Rattle.tree_types.specs.declared.content.ProfileEntry.{ProfileEntry}
use Rattle.tree_types.specs.declared.counted_tree.NodeCount.{NodeCount}
use Rattle.prof_db.specs.declared.raw.RawEntry.{RawEntry}
use Rattle.prof_db.specs.Broken.{RuleCheck, first_broken}
use Rattle.prof_db.specs.Fields.{DbRead, fault}
use Rattle.prof_db.specs.NameRules.{is_among, pair_less}
use Rattle.prof_db.specs.NodeRules.{is_statement, raw_node_at}
use Rattle.prof_db.specs.declared.raw.RawNode.{RawNode}
use Rattle.tree_types.specs.NodeValues.{kind_rank}

-- ---- the sixth rule, first: each entry of the profile plane by itself

-- the entry with an index
abbrev pub entry_at : List RawEntry → ℕ → RawEntry
entry_at entries i = slice_index_or entries i (record { offset = 0; column = 0; node = 0; kind = 0; value = 0 })

-- an entry of kind 0 is an exclusive value: its column's period times the number of samples that end at its node
abbrev pub is_exclusive_entry : RawEntry → Bool
is_exclusive_entry e = e.kind == 0

-- how many samples an entry counts: those of an exclusive value, by the period of its column
abbrev pub entry_samples : (ℕ → ℕ) → RawEntry → ℕ
entry_samples period e = if is_exclusive_entry e then e.value / period e.column else 0

-- a node, a column and a kind that the database has, and a value other than 0. An exclusive one is at a statement
-- and is a multiple of its column's period
abbrev pub is_value : (ℕ → ℕ) → ℕ → List Node → RawEntry → Bool
is_value period columns nodes e =
    nat_lt e.node (length nodes) && (nat_lt e.column columns && (nat_lt e.kind 3 && (not (e.value == 0)
    && (not (is_exclusive_entry e)
    || (is_statement (node_at nodes e.node).scope && e.value % period e.column == 0)))))

-- the entries ascend by column, then node, then kind. By column they ascend in any case, list after list
abbrev pub entries_ascend : RawEntry → RawEntry → Bool
entries_ascend e f = nat_lt e.column f.column || (e.column == f.column && pair_less e.node e.kind f.node f.kind)

-- and the exclusive values up to each entry count at most 1,048,576 samples
abbrev pub entry_breaks : (ℕ → ℕ) → ℕ → List Node → List RawEntry → ℕ → Bool
entry_breaks period columns nodes entries i =
    not (is_value period columns nodes (entry_at entries i)
    && ((i == 0 || entries_ascend (entry_at entries (i - 1)) (entry_at entries i))
    && nat_le (sum_by (entry_samples period) (take (i + 1) entries)) most_samples))

-- each column's period, the number of columns, the nodes and the entries: the first that breaks the sixth rule
abbrev pub entries_kept : (ℕ → ℕ) → ℕ → List Node → List RawEntry → RuleCheck
entries_kept period columns nodes entries =
    first_broken 6 (entry_breaks period columns nodes entries) (λ i. (entry_at entries i).offset) 0 (length entries)

-- ---- the tree whose values these are

-- an exclusive value as a count of samples at its node, by the period of its column
abbrev pub entry_count : (ℕ → ℕ) → RawEntry → NodeCount
entry_count period e = record { node = e.node; column = e.column; count = e.value / period e.column }

-- the nodes, and the samples that the exclusive values count
abbrev pub tree_of : (ℕ → ℕ) → ℕ → List Node → List RawEntry → CountedTree
tree_of period columns nodes entries = record {
  columns = columns;
  nodes = nodes;
  counts = map (entry_count period) (filter is_exclusive_entry entries);
}

-- ---- the sixth rule, second, and the seventh: the fields of a plane

-- a field: how many bytes it has, and its number
abbrev pub ValueField : Type 0
ValueField = ℕ × ℕ

-- a field of four bytes
abbrev pub field_of_word : ℕ → ValueField
field_of_word n = (4, n)

-- the fields of an entry of a column: node, kind and value
abbrev pub profile_fields : ProfileEntry → List ValueField
profile_fields e = field_of_word e.node ∷ field_of_word (kind_rank e.kind) ∷ (8, e.value) ∷ []

-- the fields of an entry of a node: kind, column and value
abbrev pub context_fields : ContextEntry → List ValueField
context_fields e = field_of_word (kind_rank e.kind) ∷ field_of_word e.column ∷ (8, e.value) ∷ []

-- how many entries a column has, and each
abbrev pub list_fields : {X : Type 0} → (X → List ValueField) → List X → List ValueField
list_fields fields xs = field_of_word (length xs) ∷ flat_map fields xs

-- the fields of a plane, list after list
abbrev pub plane_fields : {X : Type 0} → (X → List ValueField) → List (List X) → List ValueField
plane_fields fields lists = flat_map (list_fields fields) lists

-- a field is there
abbrev pub stands_at : ValueField → At → Bool
stands_at field at = not (nat_lt (length (left_of at)) field.0) && number_in field.0 (left_of at) == field.1

-- the fields are there one after another: else the first that differs
unfoldable pub fields_kept : ℕ → List ValueField → At → DbRead (Unit {0})
fields_kept rule [] at = Ok (tt, at)
fields_kept rule (field ∷ fields) at = if stands_at field at then fields_kept rule fields (moved field.0 at)
    else Err (fault rule at.offset)

-- ---- the sixth rule, third: each statement has samples

-- the nodes at which samples end
abbrev pub sampled_nodes : List RawEntry → List ℕ
sampled_nodes entries = map (λ e. e.node) (filter is_exclusive_entry entries)

-- a statement without samples
abbrev pub statement_breaks : List Node → List ℕ → ℕ → Bool
statement_breaks nodes numbers i = is_statement (node_at nodes i).scope && not (is_among numbers i)

-- the first of them
abbrev pub statements_kept : List RawNode → List Node → List ℕ → RuleCheck
statements_kept raws nodes numbers =
    first_broken 6 (statement_breaks nodes numbers) (λ i. (raw_node_at raws i).offset) 0 (length nodes)
