-- Texts as they are held.
use Rattle.std.proofs.Common.{take, ℕ, List, IsUtf8}
use Rattle.std.proofs.lemmas.Str.{IsUtf8-had, IsUtf8-append}
use Rattle.mol_base.specs.Texts.{held, IsHeld}

-- what is held is UTF-8
pub IsUtf8-held : (short : List ℕ) (len : ℕ) (long : List ℕ) → IsHeld short len long → IsUtf8 long → IsUtf8 (held short len long)
IsUtf8-held short len long held utf8 = IsUtf8-append (take len short) long (IsUtf8-had (take len short) held.1) utf8
