-- What an answer that is as the rules have it says of what they find.
use Rattle.std.proofs.Common.{◌≡◌, Option, Some, None, refl}
use Rattle.jav_names.specs.OnValues.{member, static_member, outside_member, missing_member, has_no_members, unread_member, OnValue as Reading}
use Rattle.jav_names.specs.Views.{Found as Result, found, outside, not_found}
use Rattle.jav_scope.specs.declared.found.Found.TheVariants as answer
use Rattle.mol_resolve_members.specs.found.Found.{Answers}
use Rattle.mol_resolve_members.specs.found.OnValues.{AnswersOn, Chosen}
use Rattle.mol_resolve_members.specs.declared.found.on_value.OnValue.TheVariants as on

module _ {A B : Type 0} (is : B → A → Type 0) where
  pub only-found : (kept : A) (read : Result B) → Answers is (answer.Found kept) read → (x : B) × (read ≡ found x) × is x kept
  only-found kept (found x) holds = (x, refl, holds)
  only-found kept outside holds = absurd holds
  only-found kept not_found holds = absurd holds

  pub only-outside : (read : Result B) → Answers is answer.Outside read → read ≡ outside
  only-outside (found x) holds = absurd holds
  only-outside outside holds = refl
  only-outside not_found holds = absurd holds

  pub only-nowhere : (read : Result B) → Answers is answer.NotFound read → read ≡ not_found
  only-nowhere (found x) holds = absurd holds
  only-nowhere outside holds = absurd holds
  only-nowhere not_found holds = refl

  pub only-some : (kept : A) (read : Option B) → Chosen is (Some kept) read → (x : B) × (read ≡ Some x) × is x kept
  only-some kept None holds = absurd holds
  only-some kept (Some x) holds = (x, refl, holds)

  pub only-none : (read : Option B) → Chosen is None read → read ≡ None
  only-none None holds = refl
  only-none (Some x) holds = absurd holds

  pub only-member : (kept : A) (read : Reading B) → AnswersOn is (on.Member kept) read → (x : B) × (read ≡ member x) × is x kept
  only-member kept (member x) holds = (x, refl, holds)
  only-member kept (static_member x) holds = absurd holds
  only-member kept outside_member holds = absurd holds
  only-member kept missing_member holds = absurd holds
  only-member kept has_no_members holds = absurd holds
  only-member kept unread_member holds = absurd holds

  pub only-static : (read : Reading B) → AnswersOn is on.Static read → (x : B) × (read ≡ static_member x)
  only-static (member x) holds = absurd holds
  only-static (static_member x) holds = (x, refl)
  only-static outside_member holds = absurd holds
  only-static missing_member holds = absurd holds
  only-static has_no_members holds = absurd holds
  only-static unread_member holds = absurd holds

  pub only-outside_member : (read : Reading B) → AnswersOn is on.Outside read → read ≡ outside_member
  only-outside_member (member x) holds = absurd holds
  only-outside_member (static_member x) holds = absurd holds
  only-outside_member outside_member holds = refl
  only-outside_member missing_member holds = absurd holds
  only-outside_member has_no_members holds = absurd holds
  only-outside_member unread_member holds = absurd holds

  pub only-missing : (read : Reading B) → AnswersOn is on.Missing read → read ≡ missing_member
  only-missing (member x) holds = absurd holds
  only-missing (static_member x) holds = absurd holds
  only-missing outside_member holds = absurd holds
  only-missing missing_member holds = refl
  only-missing has_no_members holds = absurd holds
  only-missing unread_member holds = absurd holds

  pub only-no_members : (read : Reading B) → AnswersOn is on.NoMembers read → read ≡ has_no_members
  only-no_members (member x) holds = absurd holds
  only-no_members (static_member x) holds = absurd holds
  only-no_members outside_member holds = absurd holds
  only-no_members missing_member holds = absurd holds
  only-no_members has_no_members holds = refl
  only-no_members unread_member holds = absurd holds

  pub only-unread : (read : Reading B) → AnswersOn is on.Unread read → read ≡ unread_member
  only-unread (member x) holds = absurd holds
  only-unread (static_member x) holds = absurd holds
  only-unread outside_member holds = absurd holds
  only-unread missing_member holds = absurd holds
  only-unread has_no_members holds = absurd holds
  only-unread unread_member holds = refl
