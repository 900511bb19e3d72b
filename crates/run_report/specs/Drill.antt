-- The four lines of `drill` on the profile of a guest.
use Rattle.std.specs.Prelude.{ℕ, List, ◌++◌, length, sum_by, codes, decimal}
use Rattle.prof_bytes.specs.Printing.{address_text}
use Rattle.rv_run.specs.State.{MachineState}
use Rattle.scope_types.specs.Key.{fnv}

-- how many instructions the harts retired together
abbrev pub retired_by : MachineState → ℕ
retired_by final = sum_by (λ hart. hart.retired) final.harts

-- ---- the lines. The harts and the period are those of every guest

-- the number of the guest
unfoldable pub number_line : ℕ → List ℕ
number_line number = codes "drill " ++ decimal number ++ codes " harts 4 period 97\n"

-- the retired instructions and the samples of all harts together
unfoldable pub totals_line : ℕ → ℕ → List ℕ
totals_line retired samples = codes "retired " ++ decimal retired ++ codes " samples " ++ decimal samples ++ codes "\n"

-- the nodes of the calling context tree
unfoldable pub nodes_line : ℕ → List ℕ
nodes_line count = codes "nodes " ++ decimal count ++ codes "\n"

-- the fold is FNV-1a of 32 bits over the database's bytes
unfoldable pub database_line : List ℕ → List ℕ
database_line database =
    codes "database " ++ decimal (length database) ++ codes " bytes fold " ++ address_text (fnv database) ++ codes "\n"

-- the four lines
abbrev pub drill_lines : ℕ → ℕ → ℕ → ℕ → List ℕ → List ℕ
drill_lines number retired samples count database =
    number_line number ++ totals_line retired samples ++ nodes_line count ++ database_line database
