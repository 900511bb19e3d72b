use Rattle.stripe_table.proofs.Always as always
use Rattle.stripe_table.proofs.laws.every_reached_table.Goals as goal

pub returns-clause-draws : goal.returns-clause-draws
returns-clause-draws c = always.draws

pub returns-clause-all_drawn : goal.returns-clause-all_drawn
returns-clause-all_drawn c = always.all_drawn

pub returns-clause-in_order : goal.returns-clause-in_order
returns-clause-in_order c = always.in_order

pub returns-clause-each_once : goal.returns-clause-each_once
returns-clause-each_once c = always.each_once

pub returns-clause-odd_is_held : goal.returns-clause-odd_is_held
returns-clause-odd_is_held c = always.odd_held

pub returns-clause-even_is_free : goal.returns-clause-even_is_free
returns-clause-even_is_free c = always.even_free

pub returns-clause-few_pieces : goal.returns-clause-few_pieces
returns-clause-few_pieces c = always.few_pieces

pub returns-clause-puts : goal.returns-clause-puts
returns-clause-puts c = always.puts_counted

pub returns-clause-home_fits : goal.returns-clause-home_fits
returns-clause-home_fits c = always.home_fits

pub returns-clause-taken_fits : goal.returns-clause-taken_fits
returns-clause-taken_fits c = always.taken_fits

pub returns-clause-one_first : goal.returns-clause-one_first
returns-clause-one_first c = always.one_first

pub returns-clause-spent : goal.returns-clause-spent
returns-clause-spent c = always.spent_blank

pub returns-clause-same_plan : goal.returns-clause-same_plan
returns-clause-same_plan c = always.same_plan

pub returns-clause-owed : goal.returns-clause-owed
returns-clause-owed c = always.owe_pieces

pub returns-clause-alone : goal.returns-clause-alone
returns-clause-alone c = always.alone_never_busy
