use Rattle.share_meeting.proofs.meeting.meeting_of.Given as goal

abbrev pub ghosts-counted_meeting : goal.ghosts-counted_meeting
ghosts-counted_meeting g a = record { name = a.blank.name; parts = a.blank.parts }
