use Rattle.qc_sound.proofs.MovedTiles.{moves_tiles}
use Rattle.qc_sound.proofs.Places.{moves_spell}
use Rattle.qc_sound.proofs.block_moves.Goals as goal

pub returns-clause-tiles : goal.returns-clause-tiles
returns-clause-tiles c = moves_tiles

pub returns-clause-spell : goal.returns-clause-spell
returns-clause-spell c = moves_spell
