-- What is wrong with tokens that are no tree: the first bad token, and which fault it is.
use Rattle.std.specs.Prelude.{◌≡◌, ◌⊎◌, ℕ, List, [], ◌∷◌, ◌++◌, Some, None}
use Rattle.mol_base.specs.Limits as limits
use Rattle.mol_base.specs.declared.limit.Which.TheVariants.{Height}
use Rattle.mol_base.specs.Token.{Token}
use Rattle.jav_tree.specs.declared.types.TypeName.{TypeName}
use Rattle.jav_tree.specs.declared.expr.Expr.{Expr}
use Rattle.jav_tree.specs.declared.stmt.Block.{Block}
use Rattle.jav_tree.specs.declared.unit.Member.{Member}
use Rattle.jav_tree.specs.declared.unit.Unit.{Unit as Source}
use Rattle.jav_tree.specs.Tokens.{IsComment}
use Rattle.jav_tree.specs.Trees.{IsUnit, IsMember, IsBody, IsExpr, IsType}
use Rattle.jav_parse_unit.specs.declared.fault.ParseFault.{ParseFault}
use Rattle.jav_parse_unit.specs.declared.fault.ParseFault.TheVariants as fault
use Rattle.jav_parse_unit.specs.declared.feature.Feature.{Feature}
use Rattle.jav_parse_unit.specs.Features.{feature_at}

-- A language says which tokens are a tree of some kind within two limits: the number of items, and the height.
abbrev pub Language : Type 1
Language = (limit max_height : ℕ) → List Token → Type 0

abbrev pub units : Language
units limit max_height ts = (u : Source) × IsUnit limit max_height u ts

abbrev pub members : Language
members limit max_height ts = (ms : List Member) × IsMember limit max_height ms ts

abbrev pub bodies : Language
bodies limit max_height ts = (b : Block) × IsBody limit max_height b ts

abbrev pub expressions : Language
expressions limit max_height ts = (e : Expr) × IsExpr limit max_height e ts

abbrev pub types : Language
types limit max_height ts = (to : TypeName) × IsType limit to ts

-- The limits of the project.
abbrev pub most_items : ℕ
most_items = limits.max_items

abbrev pub most_height : ℕ
most_height = limits.most Height

-- Some tree begins with these tokens.
abbrev pub GoesOn : Language → ℕ → ℕ → List Token → Type 0
GoesOn language limit max_height ts = (more : List Token) × language limit max_height (ts ++ more)

-- Some tree begins so if the height has no limit.
abbrev pub GoesOnHigher : Language → ℕ → List Token → Type 0
GoesOnHigher language limit ts = (max_height : ℕ) × GoesOn language limit max_height ts

-- Some tree begins so if neither the height nor the number of items has a limit.
abbrev pub GoesOnAtAll : Language → List Token → Type 0
GoesOnAtAll language ts = (limit : ℕ) × GoesOnHigher language limit ts

-- The bad token `bad` after the tokens `front` is this fault: the first of the five that holds.
pub data FaultAt (language : Language) (front : List Token) (bad : Token) : ParseFault → Type 0 where
  at_comment : IsComment bad → FaultAt language front bad (fault.CommentPlace bad.start)
  at_height : ¬ (IsComment bad) → GoesOnHigher language most_items (front ++ bad ∷ []) → FaultAt language front bad (fault.TooDeep bad.start)
  at_number : ¬ (IsComment bad) → ¬ (GoesOnHigher language most_items (front ++ bad ∷ [])) → GoesOnAtAll language (front ++ bad ∷ [])
      → FaultAt language front bad (fault.TooMany bad.start)
  at_feature : {feature : Feature} → ¬ (IsComment bad) → ¬ (GoesOnAtAll language (front ++ bad ∷ [])) → feature_at front bad ≡ Some feature
      → FaultAt language front bad (fault.Refused feature bad.start)
  at_other : ¬ (IsComment bad) → ¬ (GoesOnAtAll language (front ++ bad ∷ [])) → feature_at front bad ≡ None
      → FaultAt language front bad (fault.Expected bad.start)

-- where a list of tokens ends; 0 where there is none
abbrev pub end_of : List Token → ℕ
end_of [] = 0
end_of (t ∷ []) = t.end
end_of (t ∷ u ∷ rest) = end_of (u ∷ rest)

-- There is a bad token: the tokens before it can go on to a tree within the limits, and with it they no longer can. This is
-- its fault.
pub record FirstBad (language : Language) (ts : List Token) (f : ParseFault) : Type 0 where
  pub front : List Token
  pub bad : Token
  pub rest : List Token
  pub split : ts ≡ front ++ bad ∷ rest
  pub goes_on : GoesOn language most_items most_height front
  pub goes_on_no_more : ¬ (GoesOn language most_items most_height (front ++ bad ∷ []))
  pub fault_there : FaultAt language front bad f

-- Tokens without a bad one that are no tree: they end too early.
pub record EndsEarly (language : Language) (ts : List Token) (f : ParseFault) : Type 0 where
  pub goes_on : GoesOn language most_items most_height ts
  pub no_tree : ¬ (language most_items most_height ts)
  pub fault_there : f ≡ fault.Expected (end_of ts)

-- These tokens are no tree, and this is what is wrong with them.
abbrev pub IsFault : Language → List Token → ParseFault → Type 0
IsFault language ts f = FirstBad language ts f ⊎ EndsEarly language ts f
