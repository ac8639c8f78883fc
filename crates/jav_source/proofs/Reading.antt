-- A source that is read: its tokens, and then its tree.
use Rattle.std.proofs.Common.{◌≡◌, ◌≢◌, ◌⊎◌, inl, inr, ℕ, List, refl, ap, subst, Result, Ok, Err}
use Rattle.mol_base.specs.Token.{Token}
use Rattle.mol_base.specs.Source.{IsSource}
use Rattle.jav_lex.proofs.Faults.{no_fault}
use Rattle.jav_lex.proofs.Tiling.{one_tiling}
use Rattle.jav_tree.specs.declared.unit.Unit.{Unit as Tree}
use Rattle.jav_tree.specs.Trees.{IsUnit}
use Rattle.jav_lex.specs.Fault.{IsFirstFault}
use Rattle.jav_lex.specs.declared.fault.LexFault.{LexFault}
use Rattle.jav_lex.specs.declared.fault.LexFault.TheVariants as lex
use Rattle.jav_parse_unit.specs.BadToken.{most_items, most_height, units, IsFault}
use Rattle.jav_parse_unit.specs.declared.fault.ParseFault.{ParseFault}
use Rattle.jav_parse_unit.specs.declared.fault.ParseFault.TheVariants as parse
use Rattle.jav_source.specs.Sources.{IsUnitOf, FaultsAs, RefusesTokens, RefusesTree, of_lexical, of_syntax}
use Rattle.jav_source.specs.declared.fault.TextFault.TheVariants.{Lex, Parse}
use Rattle.jav_source.specs.declared.fault.UnitFault.{UnitFault}
use Rattle.jav_source.specs.declared.fault.UnitFault.TheVariants.{Text, OutOfMemory}

pub tokens_fault : (bytes : List ℕ) (f : UnitFault) → RefusesTokens bytes f → FaultsAs bytes f
tokens_fault bytes (Text (Lex fault)) refused = refused
tokens_fault bytes (Text (Parse fault)) refused = absurd refused
tokens_fault bytes OutOfMemory refused = tt

-- bytes that are the source of a tree have tokens
pub tokens_there : (bytes : List ℕ) (f : UnitFault) (unit : Tree) → RefusesTokens bytes f → IsUnitOf bytes unit → f ≡ OutOfMemory
tokens_there bytes (Text (Lex fault)) unit refused is = absurd (no_fault bytes is.tokens is.source fault refused.there)
tokens_there bytes (Text (Parse fault)) unit refused is = absurd refused
tokens_there bytes OutOfMemory unit refused is = refl

module _ (bytes : List ℕ) (ts : List Token) (source : IsSource bytes ts) where
  -- the tree of a source is that of its tokens
  pub tree_there : (unit : Tree) → IsUnitOf bytes unit → IsUnit most_items most_height unit ts
  tree_there unit is = subst (IsUnit most_items most_height unit) (one_tiling bytes 0 is.tokens ts is.source.tiles source.tiles) is.tree

  pub tree_fault : (f : UnitFault) → RefusesTree ts f → FaultsAs bytes f
  tree_fault (Text (Lex fault)) refused = absurd refused
  tree_fault (Text (Parse fault)) refused = record { tokens = ts; source = source; there = refused }
  tree_fault OutOfMemory refused = tt

-- # What the parser answers

-- a call answers a tree, or that memory ran out
abbrev Answers : {Fault : Type 0} → Fault → Result Tree Fault → Tree → Type 0
Answers wants answer unit = (answer ≡ Ok unit) ⊎ (answer ≡ Err wants)

module _ (ts : List Token) where
  pub tree_found : (u : Tree) → ((v : Tree) → IsUnit most_items most_height v ts → Answers parse.OutOfMemory (Ok u) v)
      → (v : Tree) → IsUnit most_items most_height v ts → Answers OutOfMemory (Ok u) v
  tree_found u only v is = by_answer (only v is) where
    by_answer : Answers parse.OutOfMemory (Ok u) v → Answers OutOfMemory (Ok u) v
    by_answer (inl e) = let same : u ≡ v = cc in inl (ap Ok same)
    by_answer (inr e) = absurd cc

  pub tree_missing : (f : ParseFault) → ((v : Tree) → IsUnit most_items most_height v ts → Answers parse.OutOfMemory (Err f) v)
      → (v : Tree) → IsUnit most_items most_height v ts → Answers OutOfMemory (Err (of_syntax f)) v
  tree_missing f only v is = by_answer (only v is) where
    by_answer : Answers parse.OutOfMemory (Err f) v → Answers OutOfMemory (Err (of_syntax f)) v
    by_answer (inl e) = absurd cc
    by_answer (inr e) = let same : f ≡ parse.OutOfMemory = cc in inr (ap (λ f. Err (of_syntax f)) same)

  pub tree_refused : (f : ParseFault) → (f ≡ parse.OutOfMemory) ⊎ IsFault units ts f → RefusesTree ts (of_syntax f)
  tree_refused parse.OutOfMemory bad = tt
  tree_refused (parse.Expected at) (inr is) = is
  tree_refused (parse.Expected at) (inl e) = absurd cc
  tree_refused (parse.Refused feature at) (inr is) = is
  tree_refused (parse.Refused feature at) (inl e) = absurd cc
  tree_refused (parse.CommentPlace at) (inr is) = is
  tree_refused (parse.CommentPlace at) (inl e) = absurd cc
  tree_refused (parse.TooDeep at) (inr is) = is
  tree_refused (parse.TooDeep at) (inl e) = absurd cc
  tree_refused (parse.TooMany at) (inr is) = is
  tree_refused (parse.TooMany at) (inl e) = absurd cc

-- # What the lexer answers

pub tokens_refused : (bytes : List ℕ) (f : LexFault) → (f ≢ lex.OutOfMemory → IsFirstFault bytes f) → RefusesTokens bytes (of_lexical f)
tokens_refused bytes lex.OutOfMemory err = tt
tokens_refused bytes (lex.NotUtf8 at) err = err (λ e. absurd cc)
tokens_refused bytes (lex.BadChar at) err = err (λ e. absurd cc)
tokens_refused bytes (lex.OpenString at) err = err (λ e. absurd cc)
tokens_refused bytes (lex.OpenComment at) err = err (λ e. absurd cc)
tokens_refused bytes (lex.BadEscape at) err = err (λ e. absurd cc)
tokens_refused bytes (lex.UnicodeEscape at) err = err (λ e. absurd cc)
tokens_refused bytes (lex.FloatLiteral at) err = err (λ e. absurd cc)
tokens_refused bytes (lex.BadNumber at) err = err (λ e. absurd cc)
tokens_refused bytes (lex.TextBlock at) err = err (λ e. absurd cc)
tokens_refused bytes (lex.NameTooLong at) err = err (λ e. absurd cc)
