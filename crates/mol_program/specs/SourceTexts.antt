-- Files as the texts of sources.
use Rattle.std.specs.Prelude.{List, map}
use Rattle.mol_base.specs.Files.{FilePair}
use Rattle.mol_resolve_rules.specs.ReadAs.{SourceText}

-- as the text of a source
abbrev pub text_of : FilePair → SourceText
text_of file = record { path = file.0; bytes = file.1 }

abbrev pub texts_of : List FilePair → List SourceText
texts_of files = map text_of files
