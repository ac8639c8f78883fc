-- Why bytes are no tag.
use Rattle.std.specs.Prelude.{◌≡◌, ℕ, ◌<◌, ◌≤◌, not, List, [], length, Some}
use Rattle.std.specs.List.{position}
use Rattle.mol_base.specs.declared.tag_fault.TagFault.{TagFault}
use Rattle.mol_base.specs.declared.tag_fault.TagFault.TheVariants.{Empty, TooLong, BadByte}
use Rattle.mol_base.specs.Tag.{is_tag_byte}

-- why bytes are no tag: there is none, there are more than 32, or the first that a tag can't have stands at this place
abbrev pub IsTagFault : List ℕ → TagFault → Type 0
IsTagFault bytes Empty = bytes ≡ []
IsTagFault bytes TooLong = 32 < length bytes
IsTagFault bytes (BadByte at) = (0 < length bytes) × (length bytes ≤ 32) × (position (λ byte. not (is_tag_byte byte)) bytes ≡ Some at)
