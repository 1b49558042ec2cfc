-- What is asked of a member that is left.
use Rattle.std.specs.Prelude.{◌&&◌, not, Bool}
use Rattle.merge_defs.specs.Members.{Left, is_as_body, is_as_member, is_joined}
use Rattle.merge_branches.specs.declared.made.Test.{Test}
use Rattle.merge_branches.specs.declared.made.Test.TheVariants.{Joined, Unjoined, Unlike, WideBody}

abbrev pub passes : Test → Left → Bool
passes Joined l = is_joined l
passes Unjoined l = not (is_joined l)
passes Unlike l = not (is_as_member l)
passes WideBody l = is_as_body l && l.wider
