-- What entries were asked, by their indices.
use Rattle.std.specs.Prelude.{◌≡◌, ℕ, Some, option_map}
use Rattle.std.specs.Ordering.{nat_cmp}
use Rattle.std.specs.BTreeMap.{BTreeMap, get}
use Rattle.dwarf_forms.specs.Sections.{section_text}
use Rattle.dwarf_info.specs.Units.{DebugInfo}
use Rattle.dwarf_info.specs.Queries.{entry_with, link_of, name_of}
use Rattle.dwarf_inline.specs.declared.long_entries.Answer.{Answer}

-- what the entry with an index answers
pub record IsAnswer (info : DebugInfo) (i : ℕ) (answer : Answer) : Type 0 where
  pub link : answer.link ≡ option_map (entry_with info) (link_of info i)
  pub name : option_map section_text answer.name ≡ name_of info i

-- each is what the entry with its index answers
abbrev pub AreAnswers : DebugInfo → BTreeMap ℕ Answer → Type 0
AreAnswers info answers = (i : ℕ) (answer : Answer) → get nat_cmp answers i ≡ Some answer → IsAnswer info i answer
