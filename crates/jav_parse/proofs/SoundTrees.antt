-- What whole lists of tokens are read as: trees of the grammar within the limits.
use Rattle.std.proofs.Common.{◌≡◌, ℕ, suc, ◌-◌, ◌<◌, List, [], None, Ok, refl, sym, ◌∙◌, subst, arith}
use Rattle.std.proofs.lemmas.List.{append-nil}
use Rattle.mol_base.specs.Token.{Token}
use Rattle.jav_tree.specs.declared.unit.Unit.{Unit as Source}
use Rattle.jav_tree.specs.Trees.{IsUnit, IsMember, IsBody, IsExpr, IsType}
use Rattle.jav_tree.specs.Units.{AscendingOf}
use Rattle.jav_parse_cursor.specs.declared.limits.Limits.{Limits}
use Rattle.jav_parse_stmt.specs.declared.stmt.Place.TheVariants as place
use Rattle.jav_parse_cursor.specs.Reading.{Parser}
use Rattle.jav_parse_stmt.specs.StmtRules.{stmt}
use Rattle.jav_parse_cursor.specs.TypeRules.{whole_type}
use Rattle.jav_parse_unit.specs.UnitRules.{unit}
use Rattle.jav_parse_unit.specs.WholeRules.{declaration, body, expression}
use Rattle.jav_parse.proofs.ExpressionLaws.{ExpressionLaws}
use Rattle.jav_parse.proofs.Meets.{Meets, Spelling, Reads, reads_map, reads_bind, reads_made}
use Rattle.jav_parse.proofs.SoundBlocks.{reads_constructor, fronted_none, tailed_none}
use Rattle.jav_parse.proofs.SoundComments.{comments_here}
use Rattle.jav_parse.proofs.SoundMembers.{reads_declared}
use Rattle.jav_parse.proofs.SoundPlaces.{reads_stmt}
use Rattle.jav_parse.proofs.SoundUnits.{reads_unit}
use Rattle.jav_parse.proofs.Within.{IsBuilding}

whole_by : {A : Type 0} (S : Spelling A) (ts : List Token) (y : A) → Meets S ts (Ok (y, [])) → S y ts
whole_by S ts y m = subst (S y) (sym (m.1 ∙ append-nil m.0)) m.2

-- what is read to its end is spelled by all tokens
pub whole_is : {A : Type 0} {S : Spelling A} {p : Parser A} → Reads S p → (ts : List Token) (y : A) → p ts ≡ Ok (y, []) → S y ts
whole_is {A} {S} {p} h ts y e = whole_by S ts y (subst (Meets S ts) e (h.at ts tt))

module _ (l : Limits) (good : IsBuilding l) (laws : ExpressionLaws l) where
  pub reads_type : Reads (IsType l.most) (whole_type l)
  reads_type = laws.type

  module _ (top : ℕ) (p : 0 < top) where
    pub reads_expression : Reads (IsExpr l.most top) (expression l top)
    reads_expression = reads_made _ (laws.level top p) (λ x us h. (x.height, h.1, h.0))

    pub reads_body : Reads (IsBody l.most top) (body l top)
    reads_body = reads_made _ (reads_constructor l laws (stmt l (top - 1) place.Item) top (λ q. reads_stmt l laws (top - 1) q) p [])
        (λ b us k. (suc k.h, k.items, k.tail, (let a = k.low in omega arith), k.form_is, rw (k.is, fronted_none k.items, tailed_none k.items k.tail) refl))

    pub reads_declaration : Reads (IsMember l.most top) (declaration l top)
    reads_declaration = reads_bind (comments_here l.turns) (λ notes cs c. reads_map (reads_declared l good laws top p None notes cs c) (λ ms zs k. (k.height, k.low, k.are)))

    -- A source file that is read is a tree once its imports are sorted.
    pub sorted_unit : (ts : List Token) (u : Source) (names : List (List ℕ)) → unit l top ts ≡ Ok (record u { imports = names }, []) → AscendingOf names u.imports → IsUnit l.most top u ts
    sorted_unit ts u names e asc =
        let k = whole_is (reads_unit l good laws top p) ts (record u { imports = names }) e in
        (k.height, k.low, k.is u.imports asc)
