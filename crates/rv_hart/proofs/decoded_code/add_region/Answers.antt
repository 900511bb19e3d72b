use Rattle.std.proofs.Common.{List, sym, subst}
use Rattle.std.proofs.lemmas.List.Elements.{All-push}
use Rattle.rv_hart.specs.declared.decoded_code.DecodedCode.{DecodedCode}
use Rattle.rv_hart.specs.private.Decoding.{IsCode, AreCode}
use Rattle.rv_hart.proofs.decoded_code.add_region.Goals as goal

pub returns : goal.returns
returns c =
    subst (λ (codes : List DecodedCode). AreCode c.args.memory.now codes) (sym c.in_ok-push-2.ensures.items)
    (All-push (λ code. IsCode c.args.memory.now code.base code.items.items) c.args.codes.now.items c.in_ok-code.code c.requires c.in_ok-code.ensures)
