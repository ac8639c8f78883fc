-- All rules together, where the keys are of these types.
use Rattle.std.proofs.Common.{◌≡◌, ◌⊎◌, inl, inr, sym, ◌∙◌}
use Rattle.jav_names.specs.Laws.{IsTheAnswer, TypesAnswered, NamesAnswered, IsDecided, NamesDecided}
use Rattle.jav_names.specs.Views.{Found, found, outside, not_found}
use Rattle.jav_names.proofs.ReadLeftmost.{leftmost-answered}
use Rattle.jav_names.proofs.ReadMembers.{field-answered, method-answered, super_method-answered, constructor-answered, super_constructor-answered}
use Rattle.jav_names.proofs.ReadOnValues.{field_on-answered, method_on-answered, index_on-answered, static_field-answered, static_method-answered}
use Rattle.jav_names.proofs.CommonTypes.{common-answered}
use Rattle.jav_names.proofs.ReadTypes.{simple-answered, type-answered}
use Rattle.jav_names.proofs.ReadVariables.{variable-answered}
use Rattle.jav_names.proofs.WrittenTypes.{type_in-Prim, type_in-named, type_in-ArrayOf, type_in-Void}

pub types_answered : (C : Type 0) → TypesAnswered C
types_answered C = record {
  simple = λ classes header name ordered. simple-answered classes ordered header name;
  types = λ classes header first rest ordered. type-answered classes ordered header first rest;
  primitive_types = type_in-Prim;
  named_types = type_in-named;
  array_types = type_in-ArrayOf;
  void_types = type_in-Void;
}

pub names_answered : (C M : Type 0) → NamesAnswered C M
names_answered C M = record {
  fields = λ view class name ordered. field-answered view ordered class name;
  methods = λ view class name arity ordered. method-answered view ordered class name arity;
  super_methods = λ view class name arity ordered. super_method-answered view ordered class name arity;
  constructors = λ view class arity ordered. constructor-answered view ordered class arity;
  super_constructors = λ view class arity ordered. super_constructor-answered view ordered class arity;
  variables = λ view place name ordered. variable-answered view ordered place name;
  leftmost = λ view place first rest ordered. leftmost-answered view ordered place first rest;
  fields_on = λ view name type ordered. field_on-answered view ordered name type;
  methods_on = λ view name arity type ordered. method_on-answered view ordered name arity type;
  indexes_on = λ type. index_on-answered type;
  static_fields = λ view class name ordered. static_field-answered view ordered class name;
  static_methods = λ view class name arity ordered. static_method-answered view ordered class name arity;
  choices = λ view first second ordered. common-answered view ordered.classes first second;
}

-- one answer is one of three
module _ {A : Type 0} {Reads : Found A → Type 0} {answer : Found A} (is : IsTheAnswer Reads answer) where
  same : (first second : Found A) → Reads first → Reads second → first ≡ second
  same first second of-first of-second = is.only first of-first ∙ sym (is.only second of-second)

  some : (reading : Found A) → Reads reading → ((x : A) × Reads (found x)) ⊎ (Reads outside ⊎ Reads not_found)
  some (found x) reads = inl (x, reads)
  some outside reads = inr (inl reads)
  some not_found reads = inr (inr reads)

  pub decided : IsDecided Reads
  decided = record {
    some = some answer is.holds;
    unique = λ x y of-x of-y. let both : found x ≡ found y = same (found x) (found y) of-x of-y in cc;
    never_found_and_outside = λ x of-x out. absurd (let both : found x ≡ outside = same (found x) outside of-x out in cc);
    never_found_and_not_found = λ x of-x missing. absurd (let both : found x ≡ not_found = same (found x) not_found of-x missing in cc);
    never_outside_and_not_found = λ out missing. absurd (let both : outside ≡ not_found = same outside not_found out missing in cc);
  }

pub names_decided : (C M : Type 0) → NamesDecided C M
names_decided C M = record {
  fields = λ view class name ordered. decided (field-answered view ordered class name);
  methods = λ view class name arity ordered. decided (method-answered view ordered class name arity);
  super_methods = λ view class name arity ordered. decided (super_method-answered view ordered class name arity);
  constructors = λ view class arity ordered. decided (constructor-answered view ordered class arity);
  super_constructors = λ view class arity ordered. decided (super_constructor-answered view ordered class arity);
  variables = λ view place name ordered. decided (variable-answered view ordered place name);
}
