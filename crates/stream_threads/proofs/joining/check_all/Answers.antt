use denote.Exit.{no}
use denote.Param.{layout, param}
use denote.Param.Send.{arg_send, arg_sync, param_send, param_sync}
use Rattle.stream_threads.proofs.joining.check_all.Goals as goal

-- the closure requires what the function requires
pub scoped-requires : goal.scoped-requires
scoped-requires g c =
    let send_R = arg_send (layout g.row.R) no (param 1 g.row.R) c.type_bounds.send-R in
    let send_G = arg_send (layout g.row.G) no (param 2 g.row.G) c.type_bounds.send-G in
    let sync_T = arg_sync (layout g.row.T) no (param 0 g.row.T) c.type_bounds.sync-T in
    record {
      at = λ a. (c.requires.begin, (c.requires.room, (param_send 1 _ send_R, param_send 2 _ send_G, param_sync 0 _ sync_T)));
    }
