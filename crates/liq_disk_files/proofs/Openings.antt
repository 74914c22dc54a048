-- Steps of the opening of a file.
use Rattle.std.specs.Prelude.{◌≡◌, ℕ, Bool, true, false, List, [], ◌∷◌, Option, Some, None, Result, Ok, Err, IfOk, IfSome, IsSome, unwrap_or}
use Rattle.std.proofs.Common.{subst, sym, ◌∙◌, ap, inr, refl}
use Rattle.std.specs.declared.fs.File.{File}
use Rattle.liq_disk_files.specs.Asked.{Asked, User, Behind, Looked, Opened, Earlier}
use Rattle.liq_disk_files.specs.Opened.{AreSynced, BothTaken, IsItsTurn, Knows, LeadsTo, MayOpen, OpensWell, SawNone, SawRegular, Taken, WasHeld, WasOpened}
use Rattle.liq_disk_files.specs.declared.calls.Name.{Name}
use Rattle.liq_disk_files.specs.declared.calls.Name.TheVariants.{Left, Right}
use Rattle.liq_disk_files.specs.declared.calls.Opening.{Opening}
use Rattle.liq_disk_files.specs.declared.calls.Refusal.{Refusal}
use Rattle.liq_disk_files.specs.declared.calls.Stream.TheVariants.{Input, Output, Errors}
use Rattle.liq_disk_files.specs.declared.found.FileId.{FileId}
use Rattle.liq_disk_files.specs.declared.found.Found.{Found}
use Rattle.liq_disk_files.proofs.Moments.{last, one, onward, still}

pub opened_still : (name : Name) (file : File) (old new : List Asked) → Earlier old new → WasOpened name file old
    → WasOpened name file new
opened_still name file old new since was = (was.0, still since was.1)

pub held_still : (file : File) (old new : List Asked) → Earlier old new → WasHeld file old → WasHeld file new
held_still file old new since was = (was.0, still since was.1, was.2)

pub leads_still : (user : ℕ) (text : List ℕ) (named found : Found) (old new : List Asked) → Earlier old new
    → named.id ≡ found.id → LeadsTo user text named old → LeadsTo user text found new
leads_still user text named found old new since is leads = record {
  path = leads.path;
  seen = leads.seen;
  before = leads.before;
  looked = onward leads.looked since;
  leads = leads.leads;
  is_no_link = leads.is_no_link;
  same = leads.same ∙ is;
}

pub taken_still : (user : ℕ) (others : List FileId) (name : Name) (file : File) (found : Found) (old new : List Asked)
    → Earlier old new → Taken user others name file found old → Taken user others name file found new
taken_still user others name file found old new since taken = record {
  opened = opened_still name file old new since taken.opened;
  told = still since taken.told;
  named = leads_still user _ found found old new since refl taken.named;
  may = taken.may;
  held = held_still file old new since taken.held;
}

pub knows_still : (user : ℕ) (input output errors : FileId) (old new : List Asked) → Earlier old new
    → Knows user input output errors old → Knows user input output errors new
knows_still user input output errors old new since knows = record {
  is_user = still since knows.is_user;
  is_input = still since knows.is_input;
  is_output = still since knows.is_output;
  is_errors = still since knows.is_errors;
}

pub turn_still : (name : Name) (old new : List Asked) → Earlier old new → IsItsTurn name old → IsItsTurn name new
turn_still Left old new since turn = tt
turn_still Right old new since turn = record {
  user = turn.user;
  input = turn.input;
  output = turn.output;
  errors = turn.errors;
  file = turn.file;
  found = turn.found;
  knows = knows_still turn.user turn.input turn.output turn.errors old new since turn.knows;
  taken = taken_still turn.user _ Left turn.file turn.found old new since turn.taken;
}

-- what the system said of the user and of the standard streams
pub known : {user : ℕ} {input output errors : FileId} {u : Option ℕ} {i o e : Option FileId}
    {s0 s1 s2 s3 s4 : List Asked} → u ≡ Some user → i ≡ Some input → o ≡ Some output → e ≡ Some errors
    → s1 ≡ User u ∷ s0 → s2 ≡ Behind Input i ∷ s1 → s3 ≡ Behind Output o ∷ s2 → s4 ≡ Behind Errors e ∷ s3
    → Knows user input output errors s4
known {s0 = s0} {s1 = s1} {s2 = s2} {s3 = s3} u i o e e1 e2 e3 e4 = record {
  is_user = still (onward (one e2) (onward (one e3) (one e4))) (last (e1 ∙ ap (λ (a : Option ℕ). User a ∷ s0) u));
  is_input = still (onward (one e3) (one e4)) (last (e2 ∙ ap (λ (a : Option FileId). Behind Input a ∷ s1) i));
  is_output = still (one e4) (last (e3 ∙ ap (λ (a : Option FileId). Behind Output a ∷ s2) o));
  is_errors = last (e4 ∙ ap (λ (a : Option FileId). Behind Errors a ∷ s3) e);
}

-- a call of another kind
pub rightly_along : (old new : List Asked) → new ≡ old → OpensWell old → OpensWell new
rightly_along old new is h = subst (λ (c : List Asked). OpensWell c) (sym is) h

-- how a file that is not there is made
abbrev pub new_file : Opening
new_file = record { read = true; write = true; truncate = false; create_new = true; mode = 0o600 }

pub opens : (name : Name) (how : Opening) (answer : Result File Refusal) (before after : List Asked)
    → after ≡ Opened name how answer ∷ before → MayOpen name how before → OpensWell before → OpensWell after
opens name how answer before after is may h = subst (λ (c : List Asked). OpensWell c) (sym is) (may, h)

-- a new file is made where none was seen
pub makes : (name : Name) (answer : Result File Refusal) (old before after : List Asked) → Earlier old before
    → after ≡ Opened name new_file answer ∷ before → SawNone name before → IsItsTurn name old → OpensWell before
    → OpensWell after
makes name answer old before after since is none turn h = opens name new_file answer before after is (record {
  keeps = (refl, refl, refl);
  there_or_made = inr (refl, refl, none);
  in_turn = turn_still name old before since turn;
}) h

pub saw_regular : (name : Name) (answer : Result Bool Refusal) (before after : List Asked)
    → after ≡ Looked name answer ∷ before → answer ≡ Ok true → SawRegular name after
saw_regular name answer before after is regular =
    (before, is ∙ ap (λ (a : Result Bool Refusal). Looked name a ∷ before) regular)

pub was_opened : (name : Name) (how : Opening) (answer : Result File Refusal) (before after : List Asked)
    → after ≡ Opened name how answer ∷ before → IfOk answer (λ file. WasOpened name file after)
was_opened name how (Ok file) before after is = (how, last is)
was_opened name how (Err refusal) before after is = tt

-- the file that was taken is the one that is handed out
pub handed : (P Q : File → Type 0) (file : File) (device : Option File) → IfSome device (λ f. (Some file ≡ Some f)
    × Q f) → P file → IfSome device P
handed P Q file (Some f) is p = subst P (ap (λ (o : Option File). unwrap_or o file) is.0) p
handed P Q file None is p = tt

-- once the left file is taken it is the right one's turn
pub turn_of_right : (user : ℕ) (input output errors : FileId) (found : Found) (calls : List Asked)
    (device : Option File) → Knows user input output errors calls → IsSome device
    → IfSome device (λ f. Taken user (input ∷ output ∷ errors ∷ []) Left f found calls) → IsItsTurn Right calls
turn_of_right user input output errors found calls (Some f) knows there taken = record {
  user = user;
  input = input;
  output = output;
  errors = errors;
  file = f;
  found = found;
  knows = knows;
  taken = taken;
}
turn_of_right user input output errors found calls None knows there taken = cc

pub both_taken : (user : ℕ) (input output errors : FileId) (left_found right_found : Found) (left right : Option File)
    (between before calls : List Asked) → Earlier between before
    → IfSome left (λ f. Taken user (input ∷ output ∷ errors ∷ []) Left f left_found between)
    → IfSome right (λ f. Taken user (input ∷ output ∷ errors ∷ left_found.id ∷ []) Right f right_found before)
    → Knows user input output errors before → AreSynced before calls → IfSome left (λ l. IfSome right (λ r. BothTaken l r calls))
both_taken user input output errors left_found right_found (Some l) (Some r) between before calls since taken_l taken_r
    knows synced = record {
      user = user;
      input = input;
      output = output;
      errors = errors;
      left_found = left_found;
      right_found = right_found;
      before = before;
      synced = synced;
      knows = knows;
      left_taken = taken_still user _ Left l left_found between before since taken_l;
      right_taken = taken_r;
    }
both_taken user input output errors left_found right_found (Some l) None between before calls since taken_l taken_r knows
    synced = tt
both_taken user input output errors left_found right_found None right between before calls since taken_l taken_r knows
    synced = tt
