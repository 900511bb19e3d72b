use Rattle.view_tables.proofs.top.length.+decimal_length.Given as goal

abbrev pub decreases-decimal_length : goal.decreases-decimal_length
decreases-decimal_length l = l.number
