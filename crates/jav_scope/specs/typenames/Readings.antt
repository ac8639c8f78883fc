-- What the names of types read as in source files.
use Rattle.std.specs.Prelude.{◌≡◌, ℕ, List}
use Rattle.jav_names.specs.index.Spelled.{joined_names}
use Rattle.jav_scope.specs.Entries.{classes_in}
use Rattle.jav_scope.specs.declared.source.SourceUnit.{SourceUnit}
use Rattle.jav_names.specs.DottedNames.{Name, cut}
use Rattle.jav_names.specs.LookUps.{type_named}
use Rattle.jav_names.specs.Types as type
use Rattle.jav_names.specs.UnitViews.{header_of}
use Rattle.jav_scope.specs.declared.typenames.reading.TypeReading.{TypeReading}
use Rattle.jav_scope.specs.declared.typenames.reading.TypeReading.TheVariants as reading

-- what a text reads as, by the answer of the code
abbrev pub reading_of : Name → TypeReading → type.TypeReading ℕ
reading_of text (reading.Class class) = type.class_read class
reading_of text (reading.Imported full rest) = type.imported full.now rest.now
reading_of text reading.Written = type.written text
reading_of text reading.Nothing = type.no_type

-- what a text reads as in the file of this number
abbrev pub type_read : List SourceUnit → ℕ → SourceUnit → Name → type.TypeReading ℕ
type_read sources number source text = type_named (classes_in sources) (header_of (number, source.unit)) (cut text).first (cut text).rest

-- a text's first name, and the others with dots between them
pub record IsCut (text first rest : Name) : Type 0 where
  pub first_is : (cut text).first ≡ first
  pub rest_is : joined_names (cut text).rest ≡ rest
