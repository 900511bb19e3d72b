use Rattle.std.proofs.Common.{rules, ◌≡◌, ◌==◌, ◌∙◌, ◌++◌, ◌∷◌, [], Option, ℕ, Some, None, Ok, Err, sym, ap}
use Rattle.std.specs.Prelude.{if◌then◌else◌}
use Rattle.std.specs.Option.{option_or}
use Rattle.dwarf_forms.specs.Lists.{list_from}
use Rattle.dwarf_forms.specs.Abbreviations.{declaration_from, table_from}
use Rattle.dwarf_forms.specs.private.Passed.{offset_read}
use Rattle.dwarf_forms.proofs.Items.{goes_on, closes, fails_at, runs_out}
use Rattle.dwarf_forms.proofs.OneDeclaration.{coded_none, coded_fault, coded_some, offset_more, IsCoded}
use Rattle.dwarf_forms.proofs.lookup.first_in.Goals as goal

pub returns-in_err-pass_declaration : goal.returns-in_err-pass_declaration
returns-in_err-pass_declaration c =
    let failed : table_from c.args.reader.now ≡ Err c.in_err-pass_declaration.field-0.0 = rw (← c.left-room.ensures) (fails_at c.in_err-pass_declaration.field-0.0 declaration_from c.loop.invariant.0 c.left-room.result c.loop.counter c.loop.reader
    (list_from declaration_from c.left-room.result c.args.reader.now) c.loop-test.true (coded_fault (declaration_from c.loop.reader) _ c.in_err-pass_declaration.ensures) c.loop.invariant.1) in
    let all : offset_read c.args.code (table_from c.args.reader.now) ≡ Err c.in_err-pass_declaration.field-0.0 = ap (offset_read c.args.code) failed in
    search rules

pub returns-in-None : goal.returns-in-None
returns-in-None c =
    let all : table_from c.args.reader.now ≡ Ok (c.loop.invariant.0, c.pass_declaration.new.reader) = rw (← c.left-room.ensures) (closes declaration_from c.loop.invariant.0 c.left-room.result c.loop.counter c.loop.reader c.pass_declaration.new.reader
    (list_from declaration_from c.left-room.result c.args.reader.now) c.loop-test.true (coded_none (declaration_from c.loop.reader) _ (rw c.in-None.is at c.in_ok-pass_declaration.ensures)) c.loop.invariant.1) in
    sym (ap (offset_read c.args.code) all ∙ ap (λ (o : Option ℕ). Ok o) (sym c.loop.invariant.2))

pub loop-preserved : goal.loop-preserved
loop-preserved c =
    let d : IsCoded c.loop.reader c.pass_declaration.new.reader c.in-Some.declared = coded_some c.loop.reader c.pass_declaration.new.reader c.in-Some.declared (rw c.in-Some.is at c.in_ok-pass_declaration.ensures) in
    let it : c.offset_if.result ≡ (if d.declared.code == c.args.code then Some d.declared.offset else None) = rw (d.code_is, d.offset_is, ← c.offset-offset.ensures.stands) c.offset_if.ensures in (
      c.loop.invariant.0 ++ d.declared ∷ [],
      goes_on declaration_from c.loop.invariant.0 c.left-room.result c.loop.counter c.loop.reader c.pass_declaration.new.reader d.declared
          (list_from declaration_from c.left-room.result c.args.reader.now) c.loop-test.true d.read c.loop.invariant.1,
      c.or-found.ensures ∙ ap (λ (o : Option ℕ). option_or c.loop.found o) it
          ∙ ap (λ (o : Option ℕ). option_or o (if d.declared.code == c.args.code then Some d.declared.offset else None)) c.loop.invariant.2
          ∙ sym (offset_more c.args.code c.loop.invariant.0 d.declared),
    )

pub returns : goal.returns
returns c =
    let all : table_from c.args.reader.now ≡ Err c.missing.result = rw (← c.left-room.ensures, c.missing.ensures) (runs_out declaration_from c.loop.invariant.0 c.left-room.result c.loop.counter c.loop.reader
    (list_from declaration_from c.left-room.result c.args.reader.now) c.loop-test.false c.loop.invariant.1) in
    sym (ap (offset_read c.args.code) all)
