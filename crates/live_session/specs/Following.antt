-- A session, as contracts see it.
use Rattle.std.specs.Prelude.{◌≡◌, ℕ, List, length, Ok}
use Rattle.doc_parts.specs.Document.{Accepted, document}
use Rattle.doc_parts.specs.Plans.{plan_of}
use Rattle.live_lines.specs.Cutting.{Held}
use Rattle.live_lines.specs.Known.{Known}
use Rattle.live_core.specs.Live as live
use Rattle.live_core.specs.Live.{Live, IsLive}
use Rattle.live_session.specs.Standing.{Standing}
use Rattle.live_session.specs.Answers.{known_of, standing_in}

-- what now stands, what lines may name, and how many lines there were
pub record Session : Type 0 where
  pub core : Live
  pub known : Known
  pub lines : ℕ

-- each task and each link has its owner, or none
pub record HasOwners (known : Known) (core : Live) : Type 0 where
  pub tasks : length known.task_owners ≡ live.tasks_of core
  pub links : length known.link_owners ≡ live.links_of core

-- the reports were accepted, and those written
abbrev pub Stands : Live → Standing → Type 0
Stands core standing = IsLive core standing.accepted standing.written

-- the session is one of this accepted document, and has answered these lines
pub record IsSession (session : Session) (accepted : Accepted) (lines : List Held) : Type 0 where
  pub plan : live.plan_of session.core ≡ plan_of accepted
  pub known : session.known ≡ known_of accepted
  pub count : session.lines ≡ length lines
  pub stands : Stands session.core (standing_in accepted lines)

-- and by the bytes of the document
abbrev pub HasFollowed : Session → List ℕ → List Held → Type 0
HasFollowed session bytes lines = (accepted : Accepted) × (document bytes ≡ Ok accepted)
    × IsSession session accepted lines
