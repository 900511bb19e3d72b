use Rattle.std.proofs.Common.{◌≡◌, [], ◌∙◌, rules}
use Rattle.guest_gen.proofs.Parts.{file_sized, from_none}
use Rattle.guest_gen.proofs.file.spelled.Goals as goal

pub returns : goal.returns
returns c =
    let none : c.new-out.result.items ≡ [] = search rules in
    c.from_vec.ensures
    ∙ file_sized c.args.code.now c.args.frames.now c.args.symbols.now c.args.names.now c.args.sizes c.requires.sizes c.requires.frames c.requires.symbols c.requires.names _ _ _ _ _ _ _ _ (from_none _ _ _ none c.in_ok-put_elf_header.ensures) c.in_ok-put_program_header.ensures
    c.in_ok-extend_from_slice.ensures.items c.in_ok-extend_from_slice-2.ensures.items c.in_ok-extend_from_slice-3.ensures.items c.in_ok-extend_from_slice-4.ensures.items c.in_ok-extend_from_slice-5.ensures.items c.in_ok-put_section_headers.ensures
