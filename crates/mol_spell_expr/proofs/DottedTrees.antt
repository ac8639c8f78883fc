-- The names of a text as an expression, name by name.
use Rattle.std.proofs.Common.{◌≡◌, ◌∷◌, ◌++◌, sym, ap, ◌∙◌}
use Rattle.jav_scope.proofs.CutTexts.{DotsNowhere, cut-front, cut-whole}
use Rattle.jav_tree.specs.declared.expr.Expr.{Expr}
use Rattle.jav_names.specs.DottedNames.{Name, Dotted, dot, cut}
use Rattle.mol_spell_rules.specs.SpelledExpressions.{dot_tree, dots_tree, name_tree, names_tree}

-- the names of a text after an expression
abbrev pub names_after : Expr → Name → Expr
names_after tree text = dots_tree tree ((cut text).first ∷ (cut text).rest)

pub one-further : (tree next : Expr) (text name behind : Name) → text ≡ name ++ dot ∷ behind → DotsNowhere name
    → next ≡ dot_tree tree name → names_after next behind ≡ names_after tree text
one-further tree next text name behind split none is =
    ap (λ next. names_after next behind) is
    ∙ sym (ap (λ (names : Dotted). dots_tree tree (names.first ∷ names.rest)) (ap cut split ∙ cut-front name behind none))

pub last-name : (tree : Expr) (text : Name) → DotsNowhere text → dot_tree tree text ≡ names_after tree text
last-name tree text none = sym (ap (λ (names : Dotted). dots_tree tree (names.first ∷ names.rest)) (cut-whole text none))

pub names-further : (first rest text : Name) → text ≡ first ++ dot ∷ rest → DotsNowhere first
    → names_after (name_tree first) rest ≡ names_tree (cut text)
names-further first rest text split none = sym (ap names_tree (ap cut split ∙ cut-front first rest none))

pub name-alone : (text : Name) → DotsNowhere text → name_tree text ≡ names_tree (cut text)
name-alone text none = sym (ap names_tree (cut-whole text none))
