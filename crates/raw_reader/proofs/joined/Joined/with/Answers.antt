use Rattle.raw_reader.specs.declared.pieces.Piece.TheVariants as pieces
use Rattle.raw_reader.specs.declared.joined.OpenList.TheVariants as lists
use Rattle.raw_reader.proofs.Joining.{stepped, Begin-joined, Member-joined, OpenGroups-joined, OpenScript-joined, End-joined}
use Rattle.raw_reader.proofs.joined.Joined.with.Goals.{in-Begin-Before, in-Member-Closed, in-OpenGroups-Closed, in-OpenScript-Closed, in-End-Closed}
use Rattle.raw_reader.proofs.joined.Joined.with.Goals as goal

pub returns : goal.returns
returns c version start old new more took stood =
    let s = c.args.self.slots in
    let after = c.match-piece in
    elim c.match-piece.branch [
      | in-Begin-Before w ↦
          stepped version c.args.piece pieces.Begin s after.slots s c.args.self.list after.list lists.Before lists.Closed start old new more w.in-Begin-Before.is-0 w.in-Begin-Before.is-1 w.slots-is w.list-is
          (Begin-joined version s start old new more) took stood
      | in-Member-Closed w ↦
          stepped version c.args.piece (pieces.Member w.in-Member-Closed.member) s after.slots w.set.new.self c.args.self.list after.list lists.Closed lists.Closed start old new more w.in-Member-Closed.is-0 w.in-Member-Closed.is-1 w.slots-is w.list-is
          (Member-joined version s w.set.new.self w.in-Member-Closed.member start old new more (w.set.ensures version)) took stood
      | in-OpenGroups-Closed w ↦
          stepped version c.args.piece pieces.OpenGroups s after.slots s c.args.self.list after.list lists.Closed (lists.Groups w.new.result) start old new more w.in-OpenGroups-Closed.is-0 w.in-OpenGroups-Closed.is-1 w.slots-is w.list-is
          (OpenGroups-joined version s w.new.result start old new more w.new.ensures.items) took stood
      | in-OpenScript-Closed w ↦
          stepped version c.args.piece pieces.OpenScript s after.slots s c.args.self.list after.list lists.Closed (lists.Script w.new-in-OpenScript-Closed.result) start old new more w.in-OpenScript-Closed.is-0 w.in-OpenScript-Closed.is-1 w.slots-is w.list-is
          (OpenScript-joined version s w.new-in-OpenScript-Closed.result start old new more w.new-in-OpenScript-Closed.ensures.items) took stood
      | in-End-Closed w ↦
          stepped version c.args.piece pieces.End s after.slots s c.args.self.list after.list lists.Closed lists.Over start old new more w.in-End-Closed.is-0 w.in-End-Closed.is-1 w.slots-is w.list-is
          (End-joined version s start old new more) took stood
    ]
