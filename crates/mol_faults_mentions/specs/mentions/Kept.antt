-- Mentions, as the code keeps them.
use Rattle.mol_faults_mentions.specs.declared.mentions.mention.Mention.{Mention as Kept}
use Rattle.mol_faults_mentions.specs.declared.mentions.mention.Role.{Role as KeptRole}
use Rattle.mol_faults_mentions.specs.declared.mentions.mention.Role.TheVariants as roles
use Rattle.mol_table_rules.specs.Mentions.{Mention, Role, a_class, a_field, a_method, a_called_method, a_static_method, a_constructor, a_param, a_listed_param}

abbrev pub kept_role : KeptRole → Role
kept_role roles.Class = a_class
kept_role roles.Field = a_field
kept_role roles.Method = a_method
kept_role roles.CalledMethod = a_called_method
kept_role roles.StaticMethod = a_static_method
kept_role roles.Constructor = a_constructor
kept_role roles.Param = a_param
kept_role roles.ListedParam = a_listed_param

abbrev pub kept_mention : Kept → Mention
kept_mention mention = record { role = kept_role mention.role; id = mention.id }
