-- Comments (JLS 3.7).
use Rattle.std.specs.Prelude.{ℕ, ◌+◌, ◌&&◌, ◌==◌, nat_lt, List, [], ◌∷◌, length, drop, if◌then◌else◌}
use Rattle.mol_base.specs.Lexical.Characters.{is_line_end, first}
use Rattle.mol_base.specs.declared.token_kind.TokenKind.TheVariants.{Comment}
use Rattle.mol_base.specs.declared.lexical.front.Front.{Front}
use Rattle.mol_base.specs.declared.lexical.front.Front.TheVariants.{Taken, Wrong}
use Rattle.mol_base.specs.declared.lexical.front.Flaw.TheVariants.{OpenComment}

-- how many bytes stand before the end of the line
abbrev pub line_len : List ℕ → ℕ
line_len [] = 0
line_len (b ∷ bs) = if is_line_end b then 0 else 1 + line_len bs

-- how many bytes stand before the first `*/`: all of them where there is none
abbrev pub before_close : List ℕ → ℕ
before_close [] = 0
before_close (b ∷ bs) = if b == 42 && first bs == 47 then 0 else 1 + before_close bs

-- after how many bytes the end of a comment that begins with `/*` is looked for
abbrev pub opening : ℕ
opening = 2

-- of bytes that begin with `/*`: the comment goes to the first `*/` after these two
unfoldable pub block_comment : List ℕ → Front
block_comment bytes = let body = drop opening bytes in
    if nat_lt (before_close body) (length body) then Taken Comment (opening + before_close body + 2) else Wrong OpenComment 0

-- of bytes that begin with `//`: the comment goes up to the end of the line
unfoldable pub line_comment : List ℕ → Front
line_comment bytes = Taken Comment (line_len bytes)
