pub mod FewFirst
pub mod FirstNamed
pub mod PlacesPushed
pub mod PlacesPut
pub mod ScopeKept
pub mod ParamsPut
