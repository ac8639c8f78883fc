-- What names read as and are the names of, as the code has it.
use Rattle.std.specs.Prelude.{◌==◌, Bool, false, [], ◌∷◌, ◌++◌, Option, Some, None}
use Rattle.std.specs.Borrow.{Bor}
use Rattle.std.specs.Str.{bytes_eq}
use Rattle.mol_base.specs.declared.ident.Id.{Id}
use Rattle.jav_names.specs.DottedNames.{Name, Names, dot, Dotted, cut}
use Rattle.mol_spell_rules.specs.references.References.{Target, class_target, field_target, method_target, param_target, default_target, local_target, outside_target}
use Rattle.mol_resolve_rules.specs.ReadTrees.{ClassPath, whole_path, front_path, no_path}
use Rattle.mol_table_rules.specs.Program.{same_id}
use Rattle.mol_scope.specs.declared.asked.answer.Answer.{Answer}
use Rattle.mol_scope.specs.declared.asked.answer.Answer.TheVariants as answers
use Rattle.mol_scope.specs.declared.asked.dotted_text.DottedText.{DottedText}
use Rattle.mol_scope.specs.declared.asked.target.Target.{Target as Named}
use Rattle.mol_scope.specs.declared.asked.target.Target.TheVariants as targets

-- ---- texts

abbrev pub with_rest : Name → Option (Bor Name) → Name
with_rest front None = front
with_rest front (Some rest) = front ++ dot ∷ rest.now

abbrev pub text_of : DottedText → Name
text_of text = with_rest text.front.now text.rest

-- the names after the first one
abbrev pub names_in : Option (Bor Name) → Names
names_in None = []
names_in (Some rest) = (cut rest.now).first ∷ (cut rest.now).rest

-- a text as names with dots between them, where the first one stands in front
abbrev pub dotted_of : DottedText → Dotted
dotted_of text = record { first = text.front.now; rest = names_in text.rest }

-- ---- what names are the names of, and read as

abbrev pub target_of : Named → Target
target_of (targets.Class class) = class_target class
target_of (targets.Field field) = field_target field
target_of (targets.Method method) = method_target method
target_of (targets.Param param) = param_target param
target_of (targets.Default class) = default_target class
target_of (targets.Local number) = local_target number
target_of (targets.Outside text) = outside_target text.now

abbrev pub answer_of : Answer → Option Target
answer_of (answers.Class class) = Some (class_target class)
answer_of (answers.Field field) = Some (field_target field)
answer_of (answers.Method method) = Some (method_target method)
answer_of (answers.Param param) = Some (param_target param)
answer_of (answers.Default class) = Some (default_target class)
answer_of (answers.Local number) = Some (local_target number)
answer_of (answers.Outside text) = Some (outside_target (text_of text))
answer_of answers.Nothing = None

-- ---- equal targets

abbrev pub same_target : Target → Target → Bool
same_target (class_target first) (class_target second) = same_id first second
same_target (field_target first) (field_target second) = same_id first second
same_target (method_target first) (method_target second) = same_id first second
same_target (param_target first) (param_target second) = same_id first second
same_target (default_target first) (default_target second) = same_id first second
same_target (local_target first) (local_target second) = first == second
same_target (outside_target first) (outside_target second) = bytes_eq first second
same_target first second = false

-- a name reads as its target
abbrev pub is_answer : Target → Option Target → Bool
is_answer target None = false
is_answer target (Some read) = same_target target read

-- ---- names that spell a class

-- the class that names spell, if they spell one and nothing else
abbrev pub whole_class : ClassPath Id → Option Id
whole_class (whole_path class) = Some class
whole_class front_path = None
whole_class no_path = None
