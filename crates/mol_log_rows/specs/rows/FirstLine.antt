-- A log up to the end of its first line: the header that it says, or the first fault up to there.
use Rattle.std.specs.Prelude.{◌≡◌, ℕ, List, [], ◌∷◌, Ok, Err}
use Rattle.serde_json.specs.Data.{Data}
use Rattle.mol_log_rows.specs.lines.Headers.{IsHeader}
use Rattle.mol_log_rows.specs.lines.Lines.{Line, IsShort, IsSizeFault, lines_of, line_data}
use Rattle.mol_log_rows.specs.declared.lines.fault.LogFault.{LogFault}
use Rattle.mol_log_rows.specs.declared.lines.fault.LogFault.TheVariants.{BadHeader}
use Rattle.mol_log_rows.specs.declared.lines.header.Header.{Header}

-- the first line says the header
pub record SaysHeader (line : Line) (header : Header) : Type 0 where
  pub said : Data
  pub text : line_data 1 line ≡ Ok said
  pub is : IsHeader said header

-- why the first line says no header, the first of these that holds
pub data IsHeaderFault (line : Line) : LogFault → Type 0 where
  unread : {fault : LogFault} → line_data 1 line ≡ Err fault → IsHeaderFault line fault
  no_header : {said : Data} → line_data 1 line ≡ Ok said → ((header : Header) → IsHeader said header → ⊥) → IsHeaderFault line BadHeader

-- the bytes are no longer than a log, and begin with the line of this header; these lines follow
pub record SaysFirst (bytes : List ℕ) (header : Header) (rest : List Line) : Type 0 where
  pub short : IsShort bytes
  pub first : Line
  pub lines : lines_of bytes ≡ first ∷ rest
  pub says : SaysHeader first header

-- the first fault of bytes that do not: their size, that there is no line, or what the first line says
pub data IsFirstFault (bytes : List ℕ) : LogFault → Type 0 where
  too_long : {fault : LogFault} → IsSizeFault bytes fault → IsFirstFault bytes fault
  no_line : IsShort bytes → lines_of bytes ≡ [] → IsFirstFault bytes BadHeader
  bad_line : {first : Line} {rest : List Line} {fault : LogFault} → IsShort bytes → lines_of bytes ≡ first ∷ rest
      → IsHeaderFault first fault
      → IsFirstFault bytes fault
