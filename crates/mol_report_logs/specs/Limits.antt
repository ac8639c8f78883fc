-- The words of the limits.
use Rattle.std.specs.Prelude.{ℕ, List, codes}
use Rattle.mol_base.specs.declared.limit.Which.{Which}
use Rattle.mol_base.specs.declared.limit.Which.TheVariants as limits

abbrev pub limit_text : Which → List ℕ
limit_text limits.Files = codes "files"
limit_text limits.FileBytes = codes "file-bytes"
limit_text limits.SourceBytes = codes "source-bytes"
limit_text limits.Height = codes "height"
limit_text limits.Operations = codes "operations"
limit_text limits.LogBytes = codes "log-bytes"
limit_text limits.ScriptBytes = codes "script-bytes"
