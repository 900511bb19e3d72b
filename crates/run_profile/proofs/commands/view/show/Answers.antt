use Rattle.std.proofs.Common.{List, Ok, ap, sym, ◌∙◌}
use Rattle.scope_types.specs.declared.event.EventPeriod.{EventPeriod}
use Rattle.command_line.specs.Product.{only_text}
use Rattle.run_profile.specs.commands.View.{place_shown}
use Rattle.run_profile.proofs.Tables.{show_is}
use Rattle.run_profile.proofs.commands.view.show.Goals as goal

pub returns : goal.returns
returns c =
    show_is c.args.view c.args.event c.args.bytes.now c.in_ok-content.content c.in_ok-place.place c.in_ok-shown.shown c.in_ok-content.ensures.exact (ap (λ (es : List EventPeriod). place_shown c.args.event es) (sym c.items.ensures) ∙ c.in_ok-place.ensures.exact) c.in_ok-shown.ensures.event
    ∙ ap Ok (sym (c.text_alone.ensures ∙ ap only_text c.in_ok-text.ensures))
