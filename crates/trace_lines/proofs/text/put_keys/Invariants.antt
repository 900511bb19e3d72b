use Rattle.std.proofs.Common.{◌≡◌, ◌++◌, take}
use Rattle.std.specs.List.{flat_map, enumerate_from}
use Rattle.scope_find.specs.Found.{naming_of}
use Rattle.trace_lines.specs.Timeline.{key_line}
use Rattle.trace_lines.proofs.text.put_keys.Given as goal

abbrev pub invariant-loop-number : goal.invariant-loop-number
invariant-loop-number l = l.out.items ≡ l.fn.out.items ++ flat_map (key_line (naming_of l.finder).proc_name) (take l.number (enumerate_from 0 l.procs))
