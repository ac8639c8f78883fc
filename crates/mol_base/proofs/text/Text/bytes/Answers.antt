use Rattle.std.proofs.Common.{subst, IsUtf8}
use Rattle.std.proofs.lemmas.Str.{IsUtf8-string_bytes}
use Rattle.mol_base.proofs.Texts.{IsUtf8-held}
use Rattle.mol_base.proofs.text.Text.bytes.Goals as goal

pub returns-then-is_empty-clause-utf8 : goal.returns-then-is_empty-clause-utf8
returns-then-is_empty-clause-utf8 c =
    let text = c.self.inside in
    subst IsUtf8 c.self.view_is (IsUtf8-held text.short text.len _ c.self.invariant (IsUtf8-string_bytes text.long))

pub returns-else-is_empty-clause-utf8 : goal.returns-else-is_empty-clause-utf8
returns-else-is_empty-clause-utf8 c =
    let text = c.self.inside in
    subst IsUtf8 c.self.view_is (IsUtf8-held text.short text.len _ c.self.invariant (IsUtf8-string_bytes text.long))
