use Rattle.gate_state.specs.GuardedStates.{IsAdmitted, IsGuarded}
use Rattle.gate_state.specs.MachineStates.{MachineState, Opening}
use Rattle.gate_state.proofs.Assembly.{turn_facts}
use Rattle.gate_state.proofs.BodyKept.{body_guarded, body_serves, body_stands}
use Rattle.gate_state.proofs.CallThrough.{called_through}
use Rattle.gate_state.proofs.LowerLaws.{LowerLaws}
use Rattle.gate_state.proofs.BookFrames.{book_hidden, hidden_book}
use Rattle.gate_state.proofs.MaskedStates.{masked_event, masked_fetch, masked_source, masked_stays, masked_stores, masked_translation, masked_turn}
use Rattle.gate_state.proofs.MaskedTouches.{masked_trapped}
use Rattle.gate_state.proofs.OpeningGuarded.{opening_guarded}
use Rattle.gate_state.proofs.SceneProofs.{scene_laws}
use Rattle.gate_state.proofs.ShownStates.{call_shown}
use Rattle.gate_state.proofs.StatesKept.{event_guarded, guarded_delivers, guarded_safe, guarded_sound, turn_books, turn_guarded, turn_shows, turn_stays}
use Rattle.gate_state.proofs.StatesOf.{at_body, in_gates}
use Rattle.gate_state.proofs.TurnFacts.{TurnFacts}
use Rattle.gate_state.proofs.TurnNearer.{body_left, turn_left}
use Rattle.gate_state.proofs.laws.steps_law.Goals as goal

pub returns : goal.returns
returns c =
    let laws : LowerLaws = record {
      walk = c.walk_law.ensures;
      upper = c.upper_law.ensures;
      kept = c.kept_law.ensures;
      access = c.access_law.ensures;
      kind = c.kind_law.ensures;
      memory = c.memory_law.ensures;
      frame = c.frame_law.ensures;
      mask = c.mask_law.ensures;
      slot = c.slot_law.ensures;
      slot_upper = c.slot_upper_law.ensures;
      slot_leaf = c.slot_leaf_law.ensures;
      opening_kinds = c.opening_kinds_law.ensures;
      opening_bytes = c.opening_bytes_law.ensures;
      opening_entries = c.opening_entries_law.ensures;
      count = c.count_law.ensures;
      sound = c.sound_law.ensures;
      stores = c.stores_law.ensures;
      opening_sound = c.opening_sound_law.ensures;
      call = c.call_law.ensures;
      call_leaves = c.call_leaves_law.ensures;
      prefixes = c.prefixes_law.ensures;
      longer = c.longer_law.ensures;
      decoding = c.decoding_law.ensures;
      spelling = c.spelling_law.ensures;
      listing = c.listing_law.ensures;
      flag = c.flag_law.ensures;
      effect = c.effect_law.ensures;
      grant = c.grant_law.ensures;
      bound = c.bound_law.ensures;
      alike = c.alike_law.ensures;
      alike_reads = c.alike_reads_law.ensures;
      fetch = c.fetch_law.ensures;
      alike_fetch = c.alike_fetch_law.ensures;
      turn_stores = c.turn_stores_law.ensures;
      pending = c.pending_law.ensures;
    } in
    let facts : (o : Opening) (s : MachineState) → IsAdmitted o → IsGuarded o s → TurnFacts o s.kinds =
    λ o s admitted guarded. turn_facts laws o s.kinds (scene_laws laws o s.kinds admitted guarded.kinds) in
    record {
      opening = λ o input admitted. opening_guarded laws o admitted (c.entry_law.ensures o.image admitted.bytes) input;
      event = λ o s what admitted plannable guarded. event_guarded laws o admitted s what plannable guarded;
      turn = λ o s admitted takes guarded. turn_guarded laws o admitted s guarded (facts o s admitted guarded) takes;
      body = λ o s admitted at guarded. body_guarded laws o admitted s at guarded;
      stays = λ o s admitted takes guarded. turn_stays laws o admitted s guarded (facts o s admitted guarded) takes;
      books = λ o s books admitted takes guarded same are. turn_books laws o admitted s guarded (facts o s admitted guarded) takes books same are;
      serves = λ o s admitted guarded. body_serves laws o s admitted guarded;
      safe = λ o s admitted guarded. guarded_safe laws o admitted s guarded (facts o s admitted guarded);
      in_gates = λ o s admitted guarded clear outside. in_gates s.processor clear outside (guarded.window clear);
      at_body = λ o s admitted guarded enters. at_body s.processor enters (guarded.window (body_stands s.processor enters).1);
      called = λ o s plan k admitted in_form guarded calling.
          called_through laws o admitted (λ ks are. turn_facts laws o ks (scene_laws laws o ks admitted are)) (body_guarded laws o admitted) plan s in_form k guarded calling;
      delivers = λ o s admitted guarded. guarded_delivers laws o admitted s guarded (facts o s admitted guarded);
      sound = λ o s admitted guarded. guarded_sound laws o admitted s guarded;
      shown = λ o s admitted takes guarded. turn_shows laws o admitted s guarded (facts o s admitted guarded) takes;
      shown_call = λ o s admitted guarded few. call_shown laws o s guarded few;
      turn_left = λ o s admitted takes guarded clear. turn_left laws o admitted s guarded (facts o s admitted guarded) takes clear;
      body_left = λ o s admitted enters guarded. body_left laws o admitted s guarded enters;
      masked_turn = λ o s m admitted takes guarded is.
          masked_turn laws o admitted s guarded m is (facts o s admitted guarded) takes;
      masked_stays = λ o s m place admitted takes guarded is.
          masked_stays laws o admitted s guarded m is (facts o s admitted guarded) takes place;
      masked_stores = λ o s m admitted takes guarded is.
          masked_stores laws o admitted s guarded m is (facts o s admitted guarded) takes;
      trapped = λ o s m place admitted takes guarded is.
          masked_trapped laws o admitted s guarded m is (facts o s admitted guarded) takes place;
      masked_fetch = λ o s m admitted guarded is. masked_fetch laws o admitted s guarded m is;
      masked_event = λ o s m what admitted guarded is. masked_event laws o admitted s guarded m is what;
      masked_source = λ o s m va count admitted guarded is. masked_source laws o admitted s guarded m is va count;
      masked_translation = λ o s m page admitted guarded is. masked_translation laws o admitted s guarded m is page;
      hidden = λ o s f admitted guarded inside is. hidden_book laws o s.kinds admitted guarded.kinds f inside is;
      books_hidden = λ o s f admitted guarded is. book_hidden laws o s.kinds admitted guarded.kinds f is;
    }
