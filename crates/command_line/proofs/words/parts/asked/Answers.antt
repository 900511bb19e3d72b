use Rattle.std.proofs.Common.{◌≡◌, ◌∙◌, ◌++◌, List, ap, map}
use Rattle.command_line.specs.declared.kind.Want.{Want}
use Rattle.command_line.specs.Kind.{kinds_of, view_want}
use Rattle.command_line.specs.Request.{IsCommand, kinds_read}
use Rattle.command_line.proofs.Named.{of_some}
use Rattle.command_line.proofs.words.parts.asked.Goals as goal

pub returns-clause-valid : goal.returns-clause-valid
returns-clause-valid c =
    let held : c.of.result ≡ c.args.reads.now = c.of.ensures ∙ c.in_ok-extend_from_slice.ensures.items ∙ ap (λ (items : List Want). items ++ c.args.reads.now) c.new-list.ensures.items in
    record {
      numbers = of_some IsCommand c.args.command c.in-Some.command c.in-Some.is c.requires.numbers;
      files =
          ap (λ (ws : List Want). kinds_of (map view_want ws)) held
          ∙ of_some (λ command. kinds_of (map view_want c.args.reads.now) ≡ kinds_read command) c.args.command c.in-Some.command c.in-Some.is c.requires.files;
    }
