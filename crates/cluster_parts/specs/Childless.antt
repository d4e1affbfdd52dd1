-- Whether a node of a document's tree has no child.
use Rattle.std.specs.Prelude.{Bool, ◌||◌, ◌==◌, List, length}
use Rattle.std.specs.List.{list_any}
use Rattle.raw_document.specs.Raw.{Job, User, Group}

abbrev pub job_is_childless : Job → Bool
job_is_childless job = length job.tasks == 0

-- the user, or a job of it
unfoldable pub user_has_childless : User → Bool
user_has_childless user = length user.jobs == 0 || list_any job_is_childless user.jobs

-- the group's cluster, or a node below it
unfoldable pub group_has_childless : Group → Bool
group_has_childless group = length group.users == 0 || list_any user_has_childless group.users

abbrev pub has_childless : List Group → Bool
has_childless groups = list_any group_has_childless groups
