use Rattle.allocator.proofs.table.plain_filling.Given as goal

abbrev pub ghosts-counted_filling-L-Ledger : goal.ghosts-counted_filling-L-Ledger
ghosts-counted_filling-L-Ledger a = record { name = a.looks.name; parts = a.looks.parts }

abbrev pub ghosts-counted_filling-T-Ledger : goal.ghosts-counted_filling-T-Ledger
ghosts-counted_filling-T-Ledger a = record { name = a.turns.name; parts = a.turns.parts }

abbrev pub ghosts-counted_filling-P-Ledger : goal.ghosts-counted_filling-P-Ledger
ghosts-counted_filling-P-Ledger a = record { name = a.plays.name; parts = a.plays.parts }

abbrev pub ghosts-counted_filling-M-Ledger : goal.ghosts-counted_filling-M-Ledger
ghosts-counted_filling-M-Ledger a = record { name = a.moves.name; parts = a.moves.parts }
