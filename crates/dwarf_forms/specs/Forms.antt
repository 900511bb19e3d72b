-- The forms of attributes, and how the bytes of each are encoded. DWARF 5, section 7.5.6.
use Rattle.std.specs.Prelude.{ℕ, ◌==◌, ◌&&◌, not, is_some, Bool, List, [], ◌∷◌, find, Option, option_map}
use Rattle.dwarf_forms.specs.declared.constants.TheConstants.{DW_FORM_addr, DW_FORM_block2, DW_FORM_block4}
use Rattle.dwarf_forms.specs.declared.constants.TheConstants.{DW_FORM_data2, DW_FORM_data4, DW_FORM_data8}
use Rattle.dwarf_forms.specs.declared.constants.TheConstants.{DW_FORM_string, DW_FORM_block, DW_FORM_block1}
use Rattle.dwarf_forms.specs.declared.constants.TheConstants.{DW_FORM_data1, DW_FORM_flag, DW_FORM_sdata, DW_FORM_strp}
use Rattle.dwarf_forms.specs.declared.constants.TheConstants.{DW_FORM_udata, DW_FORM_ref_addr, DW_FORM_ref1}
use Rattle.dwarf_forms.specs.declared.constants.TheConstants.{DW_FORM_ref2, DW_FORM_ref4, DW_FORM_ref8}
use Rattle.dwarf_forms.specs.declared.constants.TheConstants.{DW_FORM_ref_udata, DW_FORM_sec_offset, DW_FORM_exprloc}
use Rattle.dwarf_forms.specs.declared.constants.TheConstants.{DW_FORM_flag_present, DW_FORM_strx, DW_FORM_addrx}
use Rattle.dwarf_forms.specs.declared.constants.TheConstants.{DW_FORM_ref_sup4, DW_FORM_strp_sup, DW_FORM_data16}
use Rattle.dwarf_forms.specs.declared.constants.TheConstants.{DW_FORM_line_strp, DW_FORM_ref_sig8}
use Rattle.dwarf_forms.specs.declared.constants.TheConstants.{DW_FORM_implicit_const, DW_FORM_loclistx}
use Rattle.dwarf_forms.specs.declared.constants.TheConstants.{DW_FORM_rnglistx, DW_FORM_ref_sup8, DW_FORM_strx1}
use Rattle.dwarf_forms.specs.declared.constants.TheConstants.{DW_FORM_strx2, DW_FORM_strx3, DW_FORM_strx4}
use Rattle.dwarf_forms.specs.declared.constants.TheConstants.{DW_FORM_addrx1, DW_FORM_addrx2, DW_FORM_addrx3}
use Rattle.dwarf_forms.specs.declared.constants.TheConstants.{DW_FORM_addrx4}
use Rattle.dwarf_forms.specs.declared.encoding.Size.TheVariants.{One, Two, Three, Four, Eight, Uleb}
use Rattle.dwarf_forms.specs.declared.encoding.WordClass.TheVariants as words
use Rattle.dwarf_forms.specs.declared.encoding.NumberClass.TheVariants as numbers
use Rattle.dwarf_forms.specs.declared.encoding.Encoding.{Encoding}
use Rattle.dwarf_forms.specs.declared.encoding.Encoding.TheVariants.{Word, Number, Sleb, Block, Data16, String}
use Rattle.dwarf_forms.specs.declared.encoding.Encoding.TheVariants.{FlagPresent, ImplicitConst}

-- each form with its encoding. DW_FORM_indirect is not here: its value names another form
abbrev pub forms : List (ℕ × Encoding)
forms =
    (DW_FORM_addr, Word words.Address)
    ∷ (DW_FORM_block2, Block Two)
    ∷ (DW_FORM_block4, Block Four)
    ∷ (DW_FORM_data2, Number Two numbers.Number)
    ∷ (DW_FORM_data4, Number Four numbers.Number)
    ∷ (DW_FORM_data8, Number Eight numbers.Number)
    ∷ (DW_FORM_string, String)
    ∷ (DW_FORM_block, Block Uleb)
    ∷ (DW_FORM_block1, Block One)
    ∷ (DW_FORM_data1, Number One numbers.Number)
    ∷ (DW_FORM_flag, Number One numbers.Flag)
    ∷ (DW_FORM_sdata, Sleb)
    ∷ (DW_FORM_strp, Word words.StrAt)
    ∷ (DW_FORM_udata, Number Uleb numbers.Number)
    ∷ (DW_FORM_ref_addr, Word words.InfoRef)
    ∷ (DW_FORM_ref1, Number One numbers.UnitRef)
    ∷ (DW_FORM_ref2, Number Two numbers.UnitRef)
    ∷ (DW_FORM_ref4, Number Four numbers.UnitRef)
    ∷ (DW_FORM_ref8, Number Eight numbers.UnitRef)
    ∷ (DW_FORM_ref_udata, Number Uleb numbers.UnitRef)
    ∷ (DW_FORM_sec_offset, Word words.Section)
    ∷ (DW_FORM_exprloc, Block Uleb)
    ∷ (DW_FORM_flag_present, FlagPresent)
    ∷ (DW_FORM_strx, Number Uleb numbers.StrIndex)
    ∷ (DW_FORM_addrx, Number Uleb numbers.AddrIndex)
    ∷ (DW_FORM_ref_sup4, Number Four numbers.Passed)
    ∷ (DW_FORM_strp_sup, Number Four numbers.Passed)
    ∷ (DW_FORM_data16, Data16)
    ∷ (DW_FORM_line_strp, Word words.LineStrAt)
    ∷ (DW_FORM_ref_sig8, Number Eight numbers.Passed)
    ∷ (DW_FORM_implicit_const, ImplicitConst)
    ∷ (DW_FORM_loclistx, Number Uleb numbers.Passed)
    ∷ (DW_FORM_rnglistx, Number Uleb numbers.ListIndex)
    ∷ (DW_FORM_ref_sup8, Number Eight numbers.Passed)
    ∷ (DW_FORM_strx1, Number One numbers.StrIndex)
    ∷ (DW_FORM_strx2, Number Two numbers.StrIndex)
    ∷ (DW_FORM_strx3, Number Three numbers.StrIndex)
    ∷ (DW_FORM_strx4, Number Four numbers.StrIndex)
    ∷ (DW_FORM_addrx1, Number One numbers.AddrIndex)
    ∷ (DW_FORM_addrx2, Number Two numbers.AddrIndex)
    ∷ (DW_FORM_addrx3, Number Three numbers.AddrIndex)
    ∷ (DW_FORM_addrx4, Number Four numbers.AddrIndex)
    ∷ []

-- the encoding of a form
abbrev pub encoding_of : ℕ → Option Encoding
encoding_of form = option_map (λ row. row.1) (find (λ row. row.0 == form) forms)

-- a form whose value lies in the entry itself, with no constant of a declaration
abbrev pub is_value_form : ℕ → Bool
is_value_form form = is_some (encoding_of form) && not (form == DW_FORM_implicit_const)
