-- Whole lists of tokens by the rules, and what is wrong with those that are no tree.
use Rattle.std.specs.Prelude.{◌≡◌, ◌⊎◌, ℕ, ◌+◌, ◌-◌, ◌*◌, nat_eq, Bool, true, false, if◌then◌else◌, List, [], ◌∷◌, ◌++◌, length, take, drop, Option, Some, None, Result, Ok, Err}
use Rattle.std.specs.Global.{Global}
use Rattle.mol_base.specs.Token.{Token}
use Rattle.jav_tree.specs.declared.expr.Expr.{Expr}
use Rattle.jav_tree.specs.declared.stmt.Block.{Block}
use Rattle.jav_tree.specs.declared.unit.Member.{Member}
use Rattle.jav_tree.specs.declared.unit.Unit.{Unit as Source}
use Rattle.jav_tree.specs.Blocks.{block_of}
use Rattle.jav_tree.specs.Units.{AscendingOf}
use Rattle.jav_parse_unit.specs.BadToken.{most_items, end_of}
use Rattle.jav_parse_unit.specs.declared.fault.ParseFault.{ParseFault}
use Rattle.jav_parse_unit.specs.declared.fault.ParseFault.TheVariants as fault
use Rattle.jav_parse_cursor.specs.declared.stop.Stop.{Stop}
use Rattle.jav_parse_cursor.specs.declared.stop.Stop.TheVariants.{OutOfMemory, Bad}
use Rattle.jav_parse_unit.specs.declared.feature.Feature.{Feature}
use Rattle.jav_parse_cursor.specs.declared.limits.Limits.{Limits}
use Rattle.jav_parse_expr.specs.declared.primary.Goal.TheVariants.{Level}
use Rattle.jav_parse_unit.specs.declared.reading.Language.{Language}
use Rattle.jav_parse_unit.specs.declared.reading.Language.TheVariants as language
use Rattle.jav_parse_cursor.specs.declared.sort.Sort.TheVariants.{Comment}
use Rattle.jav_parse_stmt.specs.declared.stmt.Place.TheVariants.{Item}
use Rattle.jav_parse_expr.specs.ExprRules.{expr}
use Rattle.jav_parse_unit.specs.Features.{feature_at}
use Rattle.jav_parse_unit.specs.MemberRules.{declared}
use Rattle.jav_parse_cursor.specs.Reading.{Outcome, Parser, ◌>>=◌, pure, comments}
use Rattle.jav_parse_cursor.specs.Sorts.{sort_of, same_sort}
use Rattle.jav_parse_stmt.specs.StmtRules.{stmt, constructor_block}
use Rattle.jav_parse_cursor.specs.TypeRules.{whole_type}
use Rattle.jav_parse_unit.specs.UnitRules.{unit}

-- the declaration of a member, or of several fields, with the comments before it
abbrev pub declaration : Limits → ℕ → Parser (List Member)
declaration l top = comments l.turns [] >>= declared l top None

-- the block of a body
abbrev pub body : Limits → ℕ → Parser Block
body l top = constructor_block l (stmt l (top - 1) Item) top [] >>= (λ b. pure (block_of b.items b.tail))

-- an expression without its height
abbrev pub expression : Limits → ℕ → Parser Expr
expression l top = expr l top (Level 1) >>= (λ x. pure x.expr)

-- the limits within which these tokens are read: at most so many items, and more turns than there are tokens
abbrev pub limits_for : Global → List Token → ℕ → Bool → Limits
limits_for alloc ts most builds = record { alloc = alloc; most = most; turns = length ts + 1; builds = builds }

-- the tokens that were not read
abbrev pub unread : {A : Type 0} → Outcome A → List Token
unread (Ok x) = x.1
unread (Err bad) = bad

abbrev pub is_empty : List Token → Bool
is_empty ts = nat_eq (length ts) 0

-- whether all tokens were read
abbrev pub is_whole : {A : Type 0} → Outcome A → Bool
is_whole (Ok x) = is_empty x.1
is_whole (Err bad) = false

-- the tokens that are not read as a tree of this language
abbrev pub unread_as : Language → Limits → ℕ → List Token → List Token
unread_as language.Unit l top ts = unread (unit l top ts)
unread_as language.Member l top ts = unread (declaration l top ts)
unread_as language.Body l top ts = unread (body l top ts)
unread_as language.Expr l top ts = unread (expression l top ts)
unread_as language.WholeType l top ts = unread (whole_type l ts)

-- a reading up to these tokens, of which nothing is kept
abbrev pub SkipsTo : List Token → Result (Unit {0}) Stop → List Token → Type 0
SkipsTo rest (Ok a) new = rest ≡ new
SkipsTo rest (Err OutOfMemory) new = Unit {0}
SkipsTo rest (Err Bad) new = rest ≡ new

-- whether these tokens are all read, within so many items and this height, by heights alone
abbrev pub takes_all : Global → Language → ℕ → ℕ → List Token → Bool
takes_all alloc of most top ts = is_empty (unread_as of (limits_for alloc ts most false) top ts)

-- a limit that is as good as none for so many tokens
abbrev pub enough : List Token → ℕ
enough ts = 2 * length ts + 8

-- the fault of a token that shows this feature, or none
abbrev pub by_feature : ℕ → Option Feature → ParseFault
by_feature at None = fault.Expected at
by_feature at (Some f) = fault.Refused f at

-- what is wrong with the bad token after these, which are `both`
abbrev pub fault_of : Global → Language → List Token → Token → List Token → ParseFault
fault_of alloc of front bad both =
    if same_sort (sort_of bad) Comment then fault.CommentPlace bad.start else
    (if takes_all alloc of most_items (enough both) both then fault.TooDeep bad.start else
    (if takes_all alloc of (enough both) (enough both) both then fault.TooMany bad.start else by_feature bad.start (feature_at front bad)))

-- what is wrong with tokens that are read up to `rest`
abbrev pub wrong_at : Global → Language → List Token → List Token → ParseFault
wrong_at alloc of front [] = fault.Expected (end_of front)
wrong_at alloc of front (bad ∷ rest) = fault_of alloc of front bad (front ++ bad ∷ [])

-- the same of tokens of which the last `left` are not read
abbrev pub wrong : Global → Language → List Token → ℕ → ParseFault
wrong alloc of ts left = wrong_at alloc of (take (length ts - left) ts) (drop (length ts - left) ts)

-- Answers alloc of ts outcome r: the answer r on the tokens ts, of which the rule reads this.
abbrev pub Answers : {A : Type 0} → Global → Language → List Token → Outcome A → Result A ParseFault → Type 0
Answers alloc of ts outcome (Ok a) = outcome ≡ Ok (a, [])
Answers alloc of ts outcome (Err f) = (f ≡ fault.OutOfMemory)
    ⊎ ((is_whole outcome ≡ false) × (f ≡ wrong alloc of ts (length (unread outcome))))

-- The same of a source file, whose imports are sorted.
abbrev pub AnswersSorted : Global → List Token → Outcome Source → Result Source ParseFault → Type 0
AnswersSorted alloc ts outcome (Ok u) = (names : List (List ℕ)) × (outcome ≡ Ok (record u { imports = names }, [])) × AscendingOf names u.imports
AnswersSorted alloc ts outcome (Err f) = Answers alloc language.Unit ts outcome (Err f)
