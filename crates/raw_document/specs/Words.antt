-- The keys of a document's objects, as they stand in the text.
use Rattle.std.specs.Prelude.{ℕ, List, codes}
use Rattle.raw_document.specs.declared.key.DocKey.{DocKey}
use Rattle.raw_document.specs.declared.key.DocKey.TheVariants.{Version, Top, Links, Groups, Reporters, Script, Closings, Name, From, To, Capacity, Owner, Function, Paths, Users, Weight, Jobs, Task, Tasks, Reporter, Demand, Link, Share}

unfoldable pub word : DocKey → List ℕ
word Version = codes "version"
word Top = codes "top"
word Links = codes "links"
word Groups = codes "groups"
word Reporters = codes "reporters"
word Script = codes "script"
word Closings = codes "closings"
word Name = codes "name"
word From = codes "from"
word To = codes "to"
word Capacity = codes "capacity"
word Owner = codes "owner"
word Function = codes "function"
word Paths = codes "paths"
word Users = codes "users"
word Weight = codes "weight"
word Jobs = codes "jobs"
word Task = codes "task"
word Tasks = codes "tasks"
word Reporter = codes "reporter"
word Demand = codes "demand"
word Link = codes "link"
word Share = codes "share"
