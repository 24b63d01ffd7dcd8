-- A new server is sound over words that are all 0.
use Rattle.std.proofs.Common.{◌≡◌, ℕ, eqb, List, [], ◌∷◌, refl, sym, subst, arith, replicate}
use Rattle.std.specs.Prelude.{IsPermutation, Contains, ◌↔◌}
use Rattle.std.proofs.lemmas.List.{length-replicate}
use Rattle.std.proofs.lemmas.List.Sorted.{IsPermutation-refl}
use Rattle.qc_model.specs.Licence.{region_words}
use Rattle.qc_tiles.specs.declared.blocks.Block.{Block}
use Rattle.qc_tiles.specs.declared.blocks.Tile.{Tile}
use Rattle.qc_tiles.specs.Tiles.{free_tile, fresh, handed_out}
use Rattle.qc_sound.specs.parts.Memory.{pinned_blocks}
use Rattle.qc_sound.specs.NewServer.{NewIsSound}
use Rattle.qc_sound.proofs.Lists.{cond_keeps}

none_handed : (n : ℕ) → handed_out (fresh n) ≡ []
none_handed n = cond_keeps (λ (ts : List Tile). handed_out ts ≡ []) (eqb n 0) [] (free_tile 0 n ∷ []) refl refl

none_pinned : (n : ℕ) → pinned_blocks (fresh n) ≡ []
none_pinned n = cond_keeps (λ (ts : List Tile). pinned_blocks ts ≡ []) (eqb n 0) [] (free_tile 0 n ∷ []) refl refl

pub new_is_sound : NewIsSound
new_is_sound hash options rounded tiling = record {
  rounded = rounded;
  region = length-replicate {A = ℕ} (region_words options) 0;
  journal = record { lawful = tt; small = refl; needs = tt; database = refl; room = omega arith };
  directory = tt;
  memory = record {
    tiles = record {
      tiling = tiling;
      in_use = subst (λ (l : List Block). IsPermutation l []) (sym (none_handed (region_words options))) (IsPermutation-refl []);
      pinned = λ b. subst (λ (l : List Block). Contains l b ↔ Contains [] b) (sym (none_pinned (region_words options))) (λ h. h, λ h. h);
    };
    tables = record { named = λ t. refl; once = refl; words = tt };
    chains = record { apart = refl; entered = tt; wanted = tt; fitting = tt; uncut = tt };
    texts = tt;
  };
  contents = tt;
  tasks = record { connected = tt; one_each = refl; each = tt; filled = tt; users = tt };
}
