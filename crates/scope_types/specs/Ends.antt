-- The numbers by which files name how a raw path ends.
use Rattle.std.specs.Prelude.{ℕ, ◌==◌, if◌then◌else◌}
use Rattle.scope_types.specs.declared.frame.End.{End}
use Rattle.scope_types.specs.declared.frame.End.TheVariants.{Whole, Partial}
use Rattle.scope_types.specs.declared.frame.PartialCause.TheVariants.{NoFde, NoCfa, Expression, Unmapped, Depth}

-- the number of an end
abbrev pub end_number : End → ℕ
end_number Whole = 0
end_number (Partial NoFde) = 1
end_number (Partial NoCfa) = 2
end_number (Partial Expression) = 3
end_number (Partial Unmapped) = 4
end_number (Partial Depth) = 5

-- the end with a number
abbrev pub end_of_number : ℕ → End
end_of_number n = if n == 0 then Whole else if n == 1 then Partial NoFde else if n == 2 then Partial NoCfa
    else if n == 3 then Partial Expression else if n == 4 then Partial Unmapped else Partial Depth
